-- Each form of a sort with levels begins as its sort does.
use Rattle.std.proofs.Common.{◌≡◌, refl, true}
use Rattle.c_forms.specs.declared.pieces.Sort.TheVariants as s
use Rattle.c_forms.specs.declared.operators.UnaryOperator.TheVariants as unary
use Rattle.c_forms.specs.declared.operators.BinaryOperator.TheVariants as binary
use Rattle.c_forms.specs.declared.forms.Form.{Form}
use Rattle.c_forms.specs.declared.forms.Form.TheVariants as form
use Rattle.c_forms.specs.declared.forms.ExpForm.TheVariants as exp
use Rattle.c_forms.specs.declared.forms.SpecForm.TheVariants as spec
use Rattle.c_forms.specs.declared.forms.DeclaratorForm.TheVariants as declarator
use Rattle.c_forms.specs.declared.forms.StmtForm.TheVariants as stmt
use Rattle.c_forms.specs.declared.forms.ItemForm.TheVariants as item
use Rattle.c_forms.specs.declared.forms.TemplateForm.TheVariants as template
use Rattle.c_forms.specs.declared.forms.GroupForm.TheVariants as group
use Rattle.c_syntax.specs.Spells.{may_be}
use Rattle.c_spelled.specs.Fitting.{row_fits}

pub exp_rows : (f : Form) → may_be s.Exp f ≡ true → row_fits s.Exp f ≡ true
exp_rows (form.Exp (exp.Name w)) m = refl
exp_rows (form.Exp (exp.Int w)) m = refl
exp_rows (form.Exp (exp.Float w)) m = refl
exp_rows (form.Exp (exp.Char w)) m = refl
exp_rows (form.Exp exp.Str) m = refl
exp_rows (form.Exp exp.Index) m = refl
exp_rows (form.Exp exp.Apply) m = refl
exp_rows (form.Exp exp.Field) m = refl
exp_rows (form.Exp exp.Arrow) m = refl
exp_rows (form.Exp exp.PostInc) m = refl
exp_rows (form.Exp exp.PostDec) m = refl
exp_rows (form.Exp exp.PreInc) m = refl
exp_rows (form.Exp exp.PreDec) m = refl
exp_rows (form.Exp (exp.Unary unary.Address)) m = refl
exp_rows (form.Exp (exp.Unary unary.Dereference)) m = refl
exp_rows (form.Exp (exp.Unary unary.Plus)) m = refl
exp_rows (form.Exp (exp.Unary unary.Minus)) m = refl
exp_rows (form.Exp (exp.Unary unary.Complement)) m = refl
exp_rows (form.Exp (exp.Unary unary.Not)) m = refl
exp_rows (form.Exp exp.SizeofExp) m = refl
exp_rows (form.Exp exp.SizeofType) m = refl
exp_rows (form.Exp exp.Cast) m = refl
exp_rows (form.Exp (exp.Binary binary.LogicalOr)) m = refl
exp_rows (form.Exp (exp.Binary binary.LogicalAnd)) m = refl
exp_rows (form.Exp (exp.Binary binary.BitOr)) m = refl
exp_rows (form.Exp (exp.Binary binary.BitXor)) m = refl
exp_rows (form.Exp (exp.Binary binary.BitAnd)) m = refl
exp_rows (form.Exp (exp.Binary binary.Equal)) m = refl
exp_rows (form.Exp (exp.Binary binary.NotEqual)) m = refl
exp_rows (form.Exp (exp.Binary binary.Less)) m = refl
exp_rows (form.Exp (exp.Binary binary.Greater)) m = refl
exp_rows (form.Exp (exp.Binary binary.LessEqual)) m = refl
exp_rows (form.Exp (exp.Binary binary.GreaterEqual)) m = refl
exp_rows (form.Exp (exp.Binary binary.ShiftLeft)) m = refl
exp_rows (form.Exp (exp.Binary binary.ShiftRight)) m = refl
exp_rows (form.Exp (exp.Binary binary.Add)) m = refl
exp_rows (form.Exp (exp.Binary binary.Subtract)) m = refl
exp_rows (form.Exp (exp.Binary binary.Multiply)) m = refl
exp_rows (form.Exp (exp.Binary binary.Divide)) m = refl
exp_rows (form.Exp (exp.Binary binary.Remainder)) m = refl
exp_rows (form.Exp exp.Conditional) m = refl
exp_rows (form.Exp (exp.Assign a)) m = refl
exp_rows (form.Exp exp.Comma) m = refl
exp_rows (form.Spec (spec.Storage c)) m = absurd (cc m)
exp_rows (form.Stmt stmt.Block) m = absurd (cc m)
exp_rows (form.Item item.Function) m = absurd (cc m)
exp_rows (form.Template (template.Many k)) m = absurd (cc m)
exp_rows (form.Group group.List) m = absurd (cc m)
exp_rows _ m = absurd (cc m)

pub declarator_rows : (f : Form) → may_be s.Declarator f ≡ true → row_fits s.Declarator f ≡ true
declarator_rows (form.Declarator declarator.Named) m = refl
declarator_rows (form.Declarator declarator.Pointer) m = refl
declarator_rows (form.Declarator declarator.ArrayOf) m = refl
declarator_rows (form.Declarator declarator.FunctionOf) m = refl
declarator_rows (form.Exp (exp.Int w)) m = absurd (cc m)
declarator_rows (form.Spec (spec.Storage c)) m = absurd (cc m)
declarator_rows (form.Stmt stmt.Block) m = absurd (cc m)
declarator_rows (form.Item item.Function) m = absurd (cc m)
declarator_rows (form.Template (template.Many k)) m = absurd (cc m)
declarator_rows (form.Group group.List) m = absurd (cc m)
declarator_rows _ m = absurd (cc m)

pub abstract_declarator_rows : (f : Form) → may_be s.AbstractDeclarator f ≡ true → row_fits s.AbstractDeclarator f ≡ true
abstract_declarator_rows (form.Declarator declarator.Absent) m = refl
abstract_declarator_rows (form.Declarator declarator.Pointer) m = refl
abstract_declarator_rows (form.Declarator declarator.ArrayOf) m = refl
abstract_declarator_rows (form.Declarator declarator.FunctionOf) m = refl
abstract_declarator_rows (form.Exp (exp.Int w)) m = absurd (cc m)
abstract_declarator_rows (form.Spec (spec.Storage c)) m = absurd (cc m)
abstract_declarator_rows (form.Stmt stmt.Block) m = absurd (cc m)
abstract_declarator_rows (form.Item item.Function) m = absurd (cc m)
abstract_declarator_rows (form.Template (template.Many k)) m = absurd (cc m)
abstract_declarator_rows (form.Group group.List) m = absurd (cc m)
abstract_declarator_rows _ m = absurd (cc m)

pub param_declarator_rows : (f : Form) → may_be s.ParamDeclarator f ≡ true → row_fits s.ParamDeclarator f ≡ true
param_declarator_rows (form.Declarator declarator.Named) m = refl
param_declarator_rows (form.Declarator declarator.Absent) m = refl
param_declarator_rows (form.Declarator declarator.Pointer) m = refl
param_declarator_rows (form.Declarator declarator.ArrayOf) m = refl
param_declarator_rows (form.Declarator declarator.FunctionOf) m = refl
param_declarator_rows (form.Exp (exp.Int w)) m = absurd (cc m)
param_declarator_rows (form.Spec (spec.Storage c)) m = absurd (cc m)
param_declarator_rows (form.Stmt stmt.Block) m = absurd (cc m)
param_declarator_rows (form.Item item.Function) m = absurd (cc m)
param_declarator_rows (form.Template (template.Many k)) m = absurd (cc m)
param_declarator_rows (form.Group group.List) m = absurd (cc m)
param_declarator_rows _ m = absurd (cc m)

pub member_name_rows : (f : Form) → may_be s.MemberName f ≡ true → row_fits s.MemberName f ≡ true
member_name_rows (form.Declarator declarator.Named) m = refl
member_name_rows (form.Declarator declarator.Absent) m = refl
member_name_rows (form.Declarator declarator.Pointer) m = refl
member_name_rows (form.Declarator declarator.ArrayOf) m = refl
member_name_rows (form.Declarator declarator.FunctionOf) m = refl
member_name_rows (form.Exp (exp.Int w)) m = absurd (cc m)
member_name_rows (form.Spec (spec.Storage c)) m = absurd (cc m)
member_name_rows (form.Stmt stmt.Block) m = absurd (cc m)
member_name_rows (form.Item item.Function) m = absurd (cc m)
member_name_rows (form.Template (template.Many k)) m = absurd (cc m)
member_name_rows (form.Group group.List) m = absurd (cc m)
member_name_rows _ m = absurd (cc m)

-- All forms, one for each row and each token that decides: with the word 0 where a form holds a word.
use Rattle.std.specs.Prelude.{true, false, List, [], ◌∷◌}
use Rattle.c_tokens.specs.declared.kind.Kind.TheVariants as kind
use Rattle.c_tokens.specs.declared.kind.Base.TheVariants as base
use Rattle.c_tokens.specs.declared.kind.MetaType.{MetaType}
use Rattle.c_tokens.specs.declared.token.Punct.TheVariants as punct
use Rattle.c_tokens.specs.declared.token.Shape.{Shape}
use Rattle.c_tokens.specs.declared.token.Shape.TheVariants as shape
use Rattle.c_forms.specs.declared.operators.UnaryOperator.TheVariants as unary
use Rattle.c_forms.specs.declared.operators.BinaryOperator.TheVariants as binary
use Rattle.c_forms.specs.declared.operators.AssignmentOperator.TheVariants as assignment
use Rattle.c_forms.specs.declared.operators.MetaUnaryOperator.TheVariants as meta_unary
use Rattle.c_forms.specs.declared.operators.StorageClass.TheVariants as storage
use Rattle.c_forms.specs.declared.operators.TypeQualifier.TheVariants as qualifier
use Rattle.c_forms.specs.declared.operators.BasicType.TheVariants as basic
use Rattle.c_forms.specs.declared.operators.StructOrUnion.TheVariants as group_key
use Rattle.c_forms.specs.declared.forms.Form.{Form}
use Rattle.c_forms.specs.declared.forms.Form.TheVariants as form
use Rattle.c_forms.specs.declared.forms.ExpForm.TheVariants as exp
use Rattle.c_forms.specs.declared.forms.SpecForm.TheVariants as spec
use Rattle.c_forms.specs.declared.forms.DeclaratorForm.TheVariants as declarator
use Rattle.c_forms.specs.declared.forms.ParamsForm.TheVariants as params
use Rattle.c_forms.specs.declared.forms.InitForm.TheVariants as init
use Rattle.c_forms.specs.declared.forms.StmtForm.TheVariants as stmt
use Rattle.c_forms.specs.declared.forms.ItemForm.TheVariants as item
use Rattle.c_forms.specs.declared.forms.MetaExpForm.TheVariants as metaexp
use Rattle.c_forms.specs.declared.forms.TemplateForm.TheVariants as template
use Rattle.c_forms.specs.declared.forms.MetaStmtForm.TheVariants as metastmt
use Rattle.c_forms.specs.declared.forms.ElementForm.TheVariants as element
use Rattle.c_forms.specs.declared.forms.HoleForm.TheVariants as hole
use Rattle.c_forms.specs.declared.forms.GroupForm.TheVariants as group

abbrev type : MetaType
type = record { base = base.Tree kind.Exp; lists = 0 }

abbrev comma : Shape
comma = shape.Punct punct.Comma

abbrev pub exp_forms : List Form
exp_forms =
    form.Exp (exp.Name (record { 0 = 0 })) ∷ form.Exp (exp.Int (record { 0 = 0 })) ∷ form.Exp (exp.Float (record { 0 = 0 })) ∷
    form.Exp (exp.Char (record { 0 = 0 })) ∷ form.Exp exp.Str ∷ form.Exp exp.Index ∷ form.Exp exp.Apply ∷ form.Exp exp.Field ∷ form.Exp exp.Arrow ∷
    form.Exp exp.PostInc ∷ form.Exp exp.PostDec ∷ form.Exp exp.PreInc ∷ form.Exp exp.PreDec ∷ form.Exp (exp.Unary unary.Address) ∷
    form.Exp (exp.Unary unary.Dereference) ∷ form.Exp (exp.Unary unary.Plus) ∷ form.Exp (exp.Unary unary.Minus) ∷
    form.Exp (exp.Unary unary.Complement) ∷ form.Exp (exp.Unary unary.Not) ∷ form.Exp exp.SizeofExp ∷ form.Exp exp.SizeofType ∷ form.Exp exp.Cast ∷
    form.Exp (exp.Binary binary.LogicalOr) ∷ form.Exp (exp.Binary binary.LogicalAnd) ∷ form.Exp (exp.Binary binary.BitOr) ∷
    form.Exp (exp.Binary binary.BitXor) ∷ form.Exp (exp.Binary binary.BitAnd) ∷ form.Exp (exp.Binary binary.Equal) ∷
    form.Exp (exp.Binary binary.NotEqual) ∷ form.Exp (exp.Binary binary.Less) ∷ form.Exp (exp.Binary binary.Greater) ∷
    form.Exp (exp.Binary binary.LessEqual) ∷ form.Exp (exp.Binary binary.GreaterEqual) ∷ form.Exp (exp.Binary binary.ShiftLeft) ∷
    form.Exp (exp.Binary binary.ShiftRight) ∷ form.Exp (exp.Binary binary.Add) ∷ form.Exp (exp.Binary binary.Subtract) ∷
    form.Exp (exp.Binary binary.Multiply) ∷ form.Exp (exp.Binary binary.Divide) ∷ form.Exp (exp.Binary binary.Remainder) ∷ form.Exp exp.Conditional ∷
    form.Exp (exp.Assign assignment.Assign) ∷ form.Exp (exp.Assign assignment.Multiply) ∷ form.Exp (exp.Assign assignment.Divide) ∷
    form.Exp (exp.Assign assignment.Remainder) ∷ form.Exp (exp.Assign assignment.Add) ∷ form.Exp (exp.Assign assignment.Subtract) ∷
    form.Exp (exp.Assign assignment.ShiftLeft) ∷ form.Exp (exp.Assign assignment.ShiftRight) ∷ form.Exp (exp.Assign assignment.BitAnd) ∷
    form.Exp (exp.Assign assignment.BitXor) ∷ form.Exp (exp.Assign assignment.BitOr) ∷ form.Exp exp.Comma ∷ []

abbrev pub spec_forms : List Form
spec_forms =
    form.Spec (spec.Storage storage.Typedef) ∷ form.Spec (spec.Storage storage.Extern) ∷ form.Spec (spec.Storage storage.Static) ∷
    form.Spec (spec.Storage storage.Auto) ∷ form.Spec (spec.Storage storage.Register) ∷ form.Spec (spec.Qualifier qualifier.Const) ∷
    form.Spec (spec.Qualifier qualifier.Volatile) ∷ form.Spec (spec.Basic basic.Void) ∷ form.Spec (spec.Basic basic.Char) ∷
    form.Spec (spec.Basic basic.Short) ∷ form.Spec (spec.Basic basic.Int) ∷ form.Spec (spec.Basic basic.Long) ∷ form.Spec (spec.Basic basic.Float) ∷
    form.Spec (spec.Basic basic.Double) ∷ form.Spec (spec.Basic basic.Signed) ∷ form.Spec (spec.Basic basic.Unsigned) ∷
    form.Spec (spec.Typedef (record { 0 = 0 })) ∷ form.Spec (spec.StructOf group_key.Struct) ∷ form.Spec (spec.StructOf group_key.Union) ∷
    form.Spec spec.EnumOf ∷ []

abbrev pub declarator_forms : List Form
declarator_forms =
    form.Declarator declarator.Named ∷ form.Declarator declarator.Absent ∷ form.Declarator declarator.Pointer ∷ form.Declarator declarator.ArrayOf ∷
    form.Declarator declarator.FunctionOf ∷ []

abbrev pub param_forms : List Form
param_forms =
    form.Params params.Ids ∷ form.Params params.Typed ∷ form.Params params.TypedAndMore ∷ []

abbrev pub init_forms : List Form
init_forms =
    form.Init init.One ∷ form.Init init.Braces ∷ []

abbrev pub stmt_forms : List Form
stmt_forms =
    form.Stmt stmt.Label ∷ form.Stmt stmt.Case ∷ form.Stmt stmt.Default ∷ form.Stmt stmt.Express ∷ form.Stmt stmt.Empty ∷ form.Stmt stmt.Block ∷
    form.Stmt stmt.If ∷ form.Stmt stmt.Switch ∷ form.Stmt stmt.While ∷ form.Stmt stmt.Do ∷ form.Stmt stmt.For ∷ form.Stmt stmt.Goto ∷
    form.Stmt stmt.Continue ∷ form.Stmt stmt.Break ∷ form.Stmt stmt.Return ∷ []

abbrev pub item_forms : List Form
item_forms =
    form.Item item.Function ∷ form.Item item.Declaration ∷ form.Item (item.Syntax type (record { 0 = 0 })) ∷
    form.Item (item.MetaFunction type (record { 0 = 0 })) ∷ form.Item (item.MetaVariable type (record { 0 = 0 })) ∷ []

abbrev pub meta_exp_forms : List Form
meta_exp_forms =
    form.MetaExp (metaexp.Int (record { 0 = 0 })) ∷ form.MetaExp (metaexp.Text (record { 0 = 0 })) ∷
    form.MetaExp (metaexp.Variable (record { 0 = 0 })) ∷ form.MetaExp (metaexp.Unary meta_unary.Plus) ∷
    form.MetaExp (metaexp.Unary meta_unary.Minus) ∷ form.MetaExp (metaexp.Unary meta_unary.Complement) ∷ form.MetaExp (metaexp.Unary meta_unary.Not) ∷
    form.MetaExp (metaexp.Binary binary.LogicalOr) ∷ form.MetaExp (metaexp.Binary binary.LogicalAnd) ∷ form.MetaExp (metaexp.Binary binary.BitOr) ∷
    form.MetaExp (metaexp.Binary binary.BitXor) ∷ form.MetaExp (metaexp.Binary binary.BitAnd) ∷ form.MetaExp (metaexp.Binary binary.Equal) ∷
    form.MetaExp (metaexp.Binary binary.NotEqual) ∷ form.MetaExp (metaexp.Binary binary.Less) ∷ form.MetaExp (metaexp.Binary binary.Greater) ∷
    form.MetaExp (metaexp.Binary binary.LessEqual) ∷ form.MetaExp (metaexp.Binary binary.GreaterEqual) ∷
    form.MetaExp (metaexp.Binary binary.ShiftLeft) ∷ form.MetaExp (metaexp.Binary binary.ShiftRight) ∷ form.MetaExp (metaexp.Binary binary.Add) ∷
    form.MetaExp (metaexp.Binary binary.Subtract) ∷ form.MetaExp (metaexp.Binary binary.Multiply) ∷ form.MetaExp (metaexp.Binary binary.Divide) ∷
    form.MetaExp (metaexp.Binary binary.Remainder) ∷ form.MetaExp metaexp.Choose ∷ form.MetaExp (metaexp.Named (record { 0 = 0 })) ∷
    form.MetaExp metaexp.Quote ∷ []

abbrev pub template_forms : List Form
template_forms =
    form.Template template.Parens ∷ form.Template template.Braces ∷ form.Template (template.One kind.Id) ∷ form.Template (template.One kind.Num) ∷
    form.Template (template.One kind.Exp) ∷ form.Template (template.One kind.Stmt) ∷ form.Template (template.One kind.Decl) ∷
    form.Template (template.One kind.Item) ∷ form.Template (template.One kind.Spec) ∷ form.Template (template.One kind.Param) ∷
    form.Template (template.One kind.Member) ∷ form.Template (template.Many kind.Id) ∷ form.Template (template.Many kind.Num) ∷
    form.Template (template.Many kind.Exp) ∷ form.Template (template.Many kind.Stmt) ∷ form.Template (template.Many kind.Decl) ∷
    form.Template (template.Many kind.Item) ∷ form.Template (template.Many kind.Spec) ∷ form.Template (template.Many kind.Param) ∷
    form.Template (template.Many kind.Member) ∷ []

abbrev pub meta_stmt_forms : List Form
meta_stmt_forms =
    form.MetaStmt metastmt.Empty ∷ form.MetaStmt metastmt.Value ∷ form.MetaStmt (metastmt.Set (record { 0 = 0 })) ∷ form.MetaStmt metastmt.If ∷
    form.MetaStmt metastmt.While ∷ form.MetaStmt metastmt.Do ∷ form.MetaStmt metastmt.For ∷ form.MetaStmt metastmt.Break ∷
    form.MetaStmt metastmt.Continue ∷ form.MetaStmt metastmt.Return ∷ form.MetaStmt metastmt.Match ∷ []

abbrev pub element_forms : List Form
element_forms =
    form.Element (element.Literal comma) ∷ form.Element element.Bind ∷ form.Element element.OneOrMore ∷ form.Element element.ZeroOrMore ∷
    form.Element (element.OneOrMoreBetween comma) ∷ form.Element (element.ZeroOrMoreBetween comma) ∷ form.Element (element.Maybe comma) ∷ []

abbrev pub hole_forms : List Form
hole_forms =
    form.Hole (hole.Variable kind.Exp false (record { 0 = 0 })) ∷ form.Hole (hole.Computed kind.Exp false) ∷ form.Hole (hole.Computed kind.Exp true) ∷
    form.Hole (hole.Binder kind.Exp (record { 0 = 0 })) ∷ []

abbrev pub group_forms : List Form
group_forms =
    form.Group group.List ∷ form.Group group.Rounds ∷ form.Group group.Row ∷ form.Group group.InitDeclarator ∷ form.Group group.Initializer ∷
    form.Group group.MemberDeclarator ∷ form.Group group.Width ∷ form.Group group.Members ∷ form.Group group.Enumerators ∷
    form.Group group.EnumeratorValue ∷ form.Group group.ElsePart ∷ form.Group group.MetaElsePart ∷ form.Group (group.Assignment (record { 0 = 0 })) ∷
    form.Group group.MetaValue ∷ form.Group (group.MetaParam type (record { 0 = 0 })) ∷ form.Group (group.Binder kind.Exp (record { 0 = 0 })) ∷
    form.Group group.Elements ∷ []

-- the declarators that have no name of their own
abbrev pub unnamed_forms : List Form
unnamed_forms = form.Declarator declarator.Absent ∷ form.Declarator declarator.Pointer ∷ form.Declarator declarator.ArrayOf ∷ form.Declarator declarator.FunctionOf ∷ []

abbrev pub other_forms : List Form
other_forms = form.TypeName ∷ form.Specs ∷ form.Member ∷ form.Enumerator ∷ form.Param ∷ form.Decl ∷ form.Id (record { 0 = 0 }) ∷ form.Literal (record { 0 = 0 })
    ∷ form.MetaBlock ∷ form.Local type (record { 0 = 0 }) ∷ form.Call (record { 0 = 0 }) type false ∷ []

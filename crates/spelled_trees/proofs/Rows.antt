-- The row of each form of plain C90 is right for what the form's sort needs and does.
use Rattle.std.proofs.Common.{◌≡◌, refl, Bool, true, false, ◌&&◌, []}
use Rattle.c_forms.specs.declared.forms.ExpForm.{ExpForm}
use Rattle.c_forms.specs.declared.forms.ExpForm.TheVariants as exp
use Rattle.c_forms.specs.declared.forms.SpecForm.{SpecForm}
use Rattle.c_forms.specs.declared.forms.SpecForm.TheVariants as spec
use Rattle.c_forms.specs.declared.forms.DeclaratorForm.{DeclaratorForm}
use Rattle.c_forms.specs.declared.forms.DeclaratorForm.TheVariants as declarator
use Rattle.c_forms.specs.declared.forms.ParamsForm.{ParamsForm}
use Rattle.c_forms.specs.declared.forms.ParamsForm.TheVariants as params
use Rattle.c_forms.specs.declared.forms.InitForm.{InitForm}
use Rattle.c_forms.specs.declared.forms.InitForm.TheVariants as init
use Rattle.c_forms.specs.declared.forms.StmtForm.{StmtForm}
use Rattle.c_forms.specs.declared.forms.StmtForm.TheVariants as stmt
use Rattle.c_forms.specs.declared.forms.ItemForm.{ItemForm}
use Rattle.c_forms.specs.declared.forms.ItemForm.TheVariants as item
use Rattle.c_forms.specs.declared.forms.TemplateForm.{TemplateForm}
use Rattle.c_forms.specs.declared.forms.TemplateForm.TheVariants as template
use Rattle.c_forms.specs.declared.forms.GroupForm.{GroupForm}
use Rattle.c_forms.specs.declared.forms.GroupForm.TheVariants as group
use Rattle.c_forms.specs.declared.forms.Form.{Form}
use Rattle.c_forms.specs.declared.forms.Form.TheVariants as form
use Rattle.c_forms.specs.declared.operators.StorageClass.{StorageClass}
use Rattle.c_forms.specs.declared.operators.StorageClass.TheVariants as storage
use Rattle.c_forms.specs.declared.operators.BinaryOperator.{BinaryOperator}
use Rattle.c_forms.specs.declared.operators.BinaryOperator.TheVariants as operator
use Rattle.c_forms.specs.declared.pieces.Sort.{Sort}
use Rattle.c_forms.specs.declared.pieces.Sort.TheVariants as s
use Rattle.c_forms.specs.Measures.{pieces}
use Rattle.c_syntax.specs.Spells.{may_be}
use Rattle.spelled_trees.specs.Effects.{needs, is_plain_sort}
use Rattle.spelled_trees.proofs.Parts.{both, left_of, right_of}
use Rattle.spelled_trees.proofs.Fitted.{is_fine}
use Rattle.spelled_trees.proofs.Suits.{is_function, is_scoped, is_form, suits, begins_anew}
use Rattle.spelled_trees.proofs.Walks.{starts_as, walks}

abbrev checked : Bool → Sort → Form → Bool
checked true own f = is_fine own (pieces f) && walks own f (starts_as (needs own)) [] (pieces f) && (is_form f && (suits own f && (begins_anew own f && is_scoped (is_function f) own f)))
checked false own f = true

abbrev is_right : Sort → Form → Bool
is_right own f = checked (is_plain_sort own && may_be own f) own f

binary : (f : BinaryOperator) (own : Sort) → is_right own (form.Exp (exp.Binary f)) ≡ true
binary operator.LogicalOr s.Exp = refl
binary operator.LogicalAnd s.Exp = refl
binary operator.BitOr s.Exp = refl
binary operator.BitXor s.Exp = refl
binary operator.BitAnd s.Exp = refl
binary operator.Equal s.Exp = refl
binary operator.NotEqual s.Exp = refl
binary operator.Less s.Exp = refl
binary operator.Greater s.Exp = refl
binary operator.LessEqual s.Exp = refl
binary operator.GreaterEqual s.Exp = refl
binary operator.ShiftLeft s.Exp = refl
binary operator.ShiftRight s.Exp = refl
binary operator.Add s.Exp = refl
binary operator.Subtract s.Exp = refl
binary operator.Multiply s.Exp = refl
binary operator.Divide s.Exp = refl
binary operator.Remainder s.Exp = refl
binary f own = refl

exps : (f : ExpForm) (own : Sort) → is_right own (form.Exp f) ≡ true
exps (exp.Name w) s.Exp = refl
exps (exp.Int w) s.Exp = refl
exps (exp.Float w) s.Exp = refl
exps (exp.Char w) s.Exp = refl
exps exp.Str s.Exp = refl
exps exp.Index s.Exp = refl
exps exp.Apply s.Exp = refl
exps exp.Field s.Exp = refl
exps exp.Arrow s.Exp = refl
exps exp.PostInc s.Exp = refl
exps exp.PostDec s.Exp = refl
exps exp.PreInc s.Exp = refl
exps exp.PreDec s.Exp = refl
exps (exp.Unary w) s.Exp = refl
exps exp.SizeofExp s.Exp = refl
exps exp.SizeofType s.Exp = refl
exps exp.Cast s.Exp = refl
exps (exp.Binary f) own = binary f own
exps exp.Conditional s.Exp = refl
exps (exp.Assign w) s.Exp = refl
exps exp.Comma s.Exp = refl
exps f own = refl

storages : (f : StorageClass) (own : Sort) → is_right own (form.Spec (spec.Storage f)) ≡ true
storages storage.Typedef s.Exp = refl
storages storage.Extern s.Exp = refl
storages storage.Static s.Exp = refl
storages storage.Auto s.Exp = refl
storages storage.Register s.Exp = refl
storages f own = refl

specs : (f : SpecForm) (own : Sort) → is_right own (form.Spec f) ≡ true
specs (spec.Storage f) own = storages f own
specs (spec.Qualifier w) s.Exp = refl
specs (spec.Basic w) s.Exp = refl
specs (spec.Typedef w) s.Exp = refl
specs (spec.StructOf w) s.Exp = refl
specs spec.EnumOf s.Exp = refl
specs f own = refl

declarators : (f : DeclaratorForm) (own : Sort) → is_right own (form.Declarator f) ≡ true
declarators declarator.Named s.Exp = refl
declarators declarator.Absent s.Exp = refl
declarators declarator.Pointer s.Exp = refl
declarators declarator.ArrayOf s.Exp = refl
declarators declarator.FunctionOf s.Exp = refl
declarators f own = refl

parameters : (f : ParamsForm) (own : Sort) → is_right own (form.Params f) ≡ true
parameters params.Ids s.Exp = refl
parameters params.Typed s.Exp = refl
parameters params.TypedAndMore s.Exp = refl
parameters f own = refl

inits : (f : InitForm) (own : Sort) → is_right own (form.Init f) ≡ true
inits init.One s.Exp = refl
inits init.Braces s.Exp = refl
inits f own = refl

stmts : (f : StmtForm) (own : Sort) → is_right own (form.Stmt f) ≡ true
stmts stmt.Label s.Exp = refl
stmts stmt.Case s.Exp = refl
stmts stmt.Default s.Exp = refl
stmts stmt.Express s.Exp = refl
stmts stmt.Empty s.Exp = refl
stmts stmt.Block s.Exp = refl
stmts stmt.If s.Exp = refl
stmts stmt.Switch s.Exp = refl
stmts stmt.While s.Exp = refl
stmts stmt.Do s.Exp = refl
stmts stmt.For s.Exp = refl
stmts stmt.Goto s.Exp = refl
stmts stmt.Continue s.Exp = refl
stmts stmt.Break s.Exp = refl
stmts stmt.Return s.Exp = refl
stmts f own = refl

items : (f : ItemForm) (own : Sort) → is_right own (form.Item f) ≡ true
items item.Function s.Exp = refl
items item.Declaration s.Exp = refl
items (item.Syntax result name) s.Exp = refl
items (item.MetaFunction result name) s.Exp = refl
items (item.MetaVariable type name) s.Exp = refl
items f own = refl

templates : (f : TemplateForm) (own : Sort) → is_right own (form.Template f) ≡ true
templates template.Parens s.Exp = refl
templates template.Braces s.Exp = refl
templates (template.One kind) s.Exp = refl
templates (template.Many kind) s.Exp = refl
templates f own = refl

groups : (f : GroupForm) (own : Sort) → is_right own (form.Group f) ≡ true
groups group.List s.Exp = refl
groups group.Rounds s.Exp = refl
groups group.Row s.Exp = refl
groups group.InitDeclarator s.Exp = refl
groups group.Initializer s.Exp = refl
groups group.MemberDeclarator s.Exp = refl
groups group.Width s.Exp = refl
groups group.Members s.Exp = refl
groups group.Enumerators s.Exp = refl
groups group.EnumeratorValue s.Exp = refl
groups group.ElsePart s.Exp = refl
groups group.MetaElsePart s.Exp = refl
groups (group.Assignment w) s.Exp = refl
groups group.MetaValue s.Exp = refl
groups (group.MetaParam type name) s.Exp = refl
groups (group.Binder kind name) s.Exp = refl
groups group.Elements s.Exp = refl
groups f own = refl

others : (f : Form) (own : Sort) → is_right own f ≡ true
others (form.Exp f) own = exps f own
others (form.Spec f) own = specs f own
others (form.Declarator f) own = declarators f own
others (form.Params f) own = parameters f own
others (form.Init f) own = inits f own
others (form.Stmt f) own = stmts f own
others (form.Item f) own = items f own
others (form.Template f) own = templates f own
others (form.Group f) own = groups f own
others form.TypeName s.Exp = refl
others form.Specs s.Exp = refl
others form.Member s.Exp = refl
others form.Enumerator s.Exp = refl
others form.Param s.Exp = refl
others form.Decl s.Exp = refl
others (form.Id w) s.Exp = refl
others (form.Literal w) s.Exp = refl
others (form.MetaExp f) s.Exp = refl
others (form.MetaStmt f) s.Exp = refl
others form.MetaBlock s.Exp = refl
others (form.Local type name) s.Exp = refl
others (form.Element f) s.Exp = refl
others (form.Hole f) s.Exp = refl
others (form.Call n gives tail) s.Exp = refl
others f own = refl

met : (b : Bool) (own : Sort) (f : Form) → b ≡ true → checked b own f ≡ true → checked true own f ≡ true
met true own f h k = k
met false own f h k = absurd (cc h)

whole : (own : Sort) (f : Form) → is_plain_sort own ≡ true → may_be own f ≡ true → checked true own f ≡ true
whole own f p m = met (is_plain_sort own && may_be own f) own f (both (is_plain_sort own) (may_be own f) p m) (others f own)

pub record Right (own : Sort) (f : Form) : Type 0 where
  -- its pieces ask for what there can be
  pub fine : is_fine own (pieces f) ≡ true
  -- and do what the sort says
  pub walked : walks own f (starts_as (needs own)) [] (pieces f) ≡ true
  pub is_form : is_form f ≡ true
  pub suits : suits own f ≡ true
  pub anew : begins_anew own f ≡ true
  pub scoped : is_scoped (is_function f) own f ≡ true

-- where a form may stand as a sort of plain C90, its row is right
pub right : (own : Sort) (f : Form) → is_plain_sort own ≡ true → may_be own f ≡ true → Right own f
right own f p m = let a = is_fine own (pieces f) in let b = walks own f (starts_as (needs own)) [] (pieces f) in let c = is_form f in let d = suits own f in let e = begins_anew own f in let g = is_scoped (is_function f) own f in
    let h = whole own f p m in let l = left_of (a && b) (c && (d && (e && g))) h in let r = right_of (a && b) (c && (d && (e && g))) h in let q = right_of c (d && (e && g)) r in let o = right_of d (e && g) q in
    record { fine = left_of a b l; walked = right_of a b l; is_form = left_of c (d && (e && g)) r; suits = left_of d (e && g) q; anew = left_of e g o; scoped = right_of e g o }

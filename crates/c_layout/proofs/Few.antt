-- No row has many pieces.
use Rattle.std.proofs.Common.{◌≡◌, ◌≤◌, nat_lt, length, ◌<◌, arith, true, false, refl, Bool}
use borrow.Author.Tests.{ltb-true}
use Rattle.c_tokens.specs.declared.kind.Kind.{Kind}
use Rattle.c_tokens.specs.declared.kind.Kind.TheVariants as kind
use Rattle.c_forms.specs.declared.operators.StorageClass.{StorageClass}
use Rattle.c_forms.specs.declared.operators.StorageClass.TheVariants as storage
use Rattle.c_forms.specs.declared.operators.BinaryOperator.{BinaryOperator}
use Rattle.c_forms.specs.declared.operators.BinaryOperator.TheVariants as operator
use Rattle.c_forms.specs.declared.forms.ExpForm.{ExpForm}
use Rattle.c_forms.specs.declared.forms.ExpForm.TheVariants as exp
use Rattle.c_forms.specs.declared.forms.SpecForm.{SpecForm}
use Rattle.c_forms.specs.declared.forms.SpecForm.TheVariants as spec
use Rattle.c_forms.specs.declared.forms.DeclaratorForm.{DeclaratorForm}
use Rattle.c_forms.specs.declared.forms.DeclaratorForm.TheVariants as declarator
use Rattle.c_forms.specs.declared.forms.ParamsForm.{ParamsForm}
use Rattle.c_forms.specs.declared.forms.ParamsForm.TheVariants as params
use Rattle.c_forms.specs.declared.forms.InitForm.{InitForm}
use Rattle.c_forms.specs.declared.forms.InitForm.TheVariants as init
use Rattle.c_forms.specs.declared.forms.StmtForm.{StmtForm}
use Rattle.c_forms.specs.declared.forms.StmtForm.TheVariants as stmt
use Rattle.c_forms.specs.declared.forms.ItemForm.{ItemForm}
use Rattle.c_forms.specs.declared.forms.ItemForm.TheVariants as item
use Rattle.c_forms.specs.declared.forms.MetaExpForm.{MetaExpForm}
use Rattle.c_forms.specs.declared.forms.MetaExpForm.TheVariants as meta_exp
use Rattle.c_forms.specs.declared.forms.TemplateForm.{TemplateForm}
use Rattle.c_forms.specs.declared.forms.TemplateForm.TheVariants as template
use Rattle.c_forms.specs.declared.forms.MetaStmtForm.{MetaStmtForm}
use Rattle.c_forms.specs.declared.forms.MetaStmtForm.TheVariants as meta_stmt
use Rattle.c_forms.specs.declared.forms.ElementForm.{ElementForm}
use Rattle.c_forms.specs.declared.forms.ElementForm.TheVariants as element
use Rattle.c_forms.specs.declared.forms.HoleForm.{HoleForm}
use Rattle.c_forms.specs.declared.forms.HoleForm.TheVariants as hole
use Rattle.c_forms.specs.declared.forms.GroupForm.{GroupForm}
use Rattle.c_forms.specs.declared.forms.GroupForm.TheVariants as group
use Rattle.c_forms.specs.declared.forms.Form.{Form}
use Rattle.c_forms.specs.declared.forms.Form.TheVariants as form
use Rattle.c_forms.specs.Measures.{pieces}

abbrev is_few : Form → Bool
is_few f = nat_lt (length (pieces f)) 12

few_binary : (o : BinaryOperator) → is_few (form.Exp (exp.Binary o)) ≡ true
few_binary operator.LogicalOr = refl
few_binary _ = refl

few_meta_binary : (o : BinaryOperator) → is_few (form.MetaExp (meta_exp.Binary o)) ≡ true
few_meta_binary operator.LogicalOr = refl
few_meta_binary _ = refl

few_one : (k : Kind) → is_few (form.Template (template.One k)) ≡ true
few_one kind.Id = refl
few_one _ = refl

few_many : (k : Kind) → is_few (form.Template (template.Many k)) ≡ true
few_many kind.Id = refl
few_many _ = refl

few_exp : (f : ExpForm) → is_few (form.Exp f) ≡ true
few_exp (exp.Binary o) = few_binary o
few_exp exp.Str = refl
few_exp _ = refl

few_storage : (c : StorageClass) → is_few (form.Spec (spec.Storage c)) ≡ true
few_storage storage.Typedef = refl
few_storage _ = refl

few_spec : (f : SpecForm) → is_few (form.Spec f) ≡ true
few_spec (spec.Storage c) = few_storage c
few_spec spec.EnumOf = refl
few_spec _ = refl

few_declarator : (f : DeclaratorForm) → is_few (form.Declarator f) ≡ true
few_declarator declarator.Named = refl
few_declarator _ = refl

few_params : (f : ParamsForm) → is_few (form.Params f) ≡ true
few_params params.Ids = refl
few_params _ = refl

few_init : (f : InitForm) → is_few (form.Init f) ≡ true
few_init init.One = refl
few_init _ = refl

few_stmt : (f : StmtForm) → is_few (form.Stmt f) ≡ true
few_stmt stmt.Label = refl
few_stmt _ = refl

few_item : (f : ItemForm) → is_few (form.Item f) ≡ true
few_item item.Function = refl
few_item _ = refl

few_meta_exp : (f : MetaExpForm) → is_few (form.MetaExp f) ≡ true
few_meta_exp (meta_exp.Binary o) = few_meta_binary o
few_meta_exp meta_exp.Choose = refl
few_meta_exp _ = refl

few_template : (f : TemplateForm) → is_few (form.Template f) ≡ true
few_template template.Parens = refl
few_template template.Braces = refl
few_template (template.One k) = few_one k
few_template (template.Many k) = few_many k

few_meta_stmt : (f : MetaStmtForm) → is_few (form.MetaStmt f) ≡ true
few_meta_stmt meta_stmt.Empty = refl
few_meta_stmt _ = refl

few_element : (f : ElementForm) → is_few (form.Element f) ≡ true
few_element element.Bind = refl
few_element _ = refl

few_hole : (f : HoleForm) → is_few (form.Hole f) ≡ true
few_hole (hole.Variable k is_list name) = refl
few_hole (hole.Computed k true) = refl
few_hole (hole.Computed k false) = refl
few_hole (hole.Binder k name) = refl

few_group : (f : GroupForm) → is_few (form.Group f) ≡ true
few_group group.List = refl
few_group _ = refl

all_few : (f : Form) → is_few f ≡ true
all_few (form.Exp f) = few_exp f
all_few (form.Spec f) = few_spec f
all_few (form.Declarator f) = few_declarator f
all_few (form.Params f) = few_params f
all_few (form.Init f) = few_init f
all_few (form.Stmt f) = few_stmt f
all_few (form.Item f) = few_item f
all_few (form.MetaExp f) = few_meta_exp f
all_few (form.Template f) = few_template f
all_few (form.MetaStmt f) = few_meta_stmt f
all_few (form.Element f) = few_element f
all_few (form.Hole f) = few_hole f
all_few (form.Group f) = few_group f
all_few _ = refl

pub few : (f : Form) → length (pieces f) ≤ 12
few f = let h : length (pieces f) < 12 = ltb-true _ _ (all_few f) in omega arith

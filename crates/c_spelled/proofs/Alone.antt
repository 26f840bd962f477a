-- The form of a node where only one may stand.
use Rattle.std.proofs.Common.{◌≡◌, ◌⊎◌, inl, inr, refl, Bool, true, false}
use Rattle.c_forms.specs.declared.pieces.Sort.TheVariants as s
use Rattle.c_forms.specs.declared.forms.Form.{Form}
use Rattle.c_forms.specs.declared.forms.Form.TheVariants as form
use Rattle.c_forms.specs.declared.forms.ExpForm.{ExpForm}
use Rattle.c_forms.specs.declared.forms.ExpForm.TheVariants as exp
use Rattle.c_forms.specs.declared.forms.DeclaratorForm.{DeclaratorForm}
use Rattle.c_forms.specs.declared.forms.SpecForm.TheVariants as spec
use Rattle.c_forms.specs.declared.forms.InitForm.TheVariants as init
use Rattle.c_forms.specs.declared.forms.ParamsForm.TheVariants as params
use Rattle.c_forms.specs.declared.forms.StmtForm.{StmtForm}
use Rattle.c_forms.specs.declared.forms.StmtForm.TheVariants as stmt
use Rattle.c_forms.specs.declared.forms.ItemForm.TheVariants as item
use Rattle.c_forms.specs.declared.forms.TemplateForm.TheVariants as template
use Rattle.c_forms.specs.declared.forms.GroupForm.TheVariants as group
use Rattle.c_syntax.specs.Spells.{may_be}

pub type_name_form : (f : Form) → may_be s.TypeName f ≡ true → f ≡ form.TypeName
type_name_form (form.TypeName) m = refl
type_name_form (form.Exp (exp.Int w)) m = absurd (cc m)
type_name_form (form.Spec (spec.Storage c)) m = absurd (cc m)
type_name_form (form.Stmt stmt.Block) m = absurd (cc m)
type_name_form (form.Item item.Function) m = absurd (cc m)
type_name_form (form.Template (template.Many k)) m = absurd (cc m)
type_name_form (form.Group group.List) m = absurd (cc m)
type_name_form _ m = absurd (cc m)

pub member_form : (f : Form) → may_be s.Member f ≡ true → f ≡ form.Member
member_form (form.Member) m = refl
member_form (form.Exp (exp.Int w)) m = absurd (cc m)
member_form (form.Spec (spec.Storage c)) m = absurd (cc m)
member_form (form.Stmt stmt.Block) m = absurd (cc m)
member_form (form.Item item.Function) m = absurd (cc m)
member_form (form.Template (template.Many k)) m = absurd (cc m)
member_form (form.Group group.List) m = absurd (cc m)
member_form _ m = absurd (cc m)

pub enumerator_form : (f : Form) → may_be s.Enumerator f ≡ true → f ≡ form.Enumerator
enumerator_form (form.Enumerator) m = refl
enumerator_form (form.Exp (exp.Int w)) m = absurd (cc m)
enumerator_form (form.Spec (spec.Storage c)) m = absurd (cc m)
enumerator_form (form.Stmt stmt.Block) m = absurd (cc m)
enumerator_form (form.Item item.Function) m = absurd (cc m)
enumerator_form (form.Template (template.Many k)) m = absurd (cc m)
enumerator_form (form.Group group.List) m = absurd (cc m)
enumerator_form _ m = absurd (cc m)

pub param_form : (f : Form) → may_be s.Param f ≡ true → f ≡ form.Param
param_form (form.Param) m = refl
param_form (form.Exp (exp.Int w)) m = absurd (cc m)
param_form (form.Spec (spec.Storage c)) m = absurd (cc m)
param_form (form.Stmt stmt.Block) m = absurd (cc m)
param_form (form.Item item.Function) m = absurd (cc m)
param_form (form.Template (template.Many k)) m = absurd (cc m)
param_form (form.Group group.List) m = absurd (cc m)
param_form _ m = absurd (cc m)

pub decl_form : (f : Form) → may_be s.Decl f ≡ true → f ≡ form.Decl
decl_form (form.Decl) m = refl
decl_form (form.Exp (exp.Int w)) m = absurd (cc m)
decl_form (form.Spec (spec.Storage c)) m = absurd (cc m)
decl_form (form.Stmt stmt.Block) m = absurd (cc m)
decl_form (form.Item item.Function) m = absurd (cc m)
decl_form (form.Template (template.Many k)) m = absurd (cc m)
decl_form (form.Group group.List) m = absurd (cc m)
decl_form _ m = absurd (cc m)

pub block_form : (f : Form) → may_be s.Block f ≡ true → f ≡ form.Stmt stmt.Block
block_form (form.Stmt stmt.Block) m = refl
block_form (form.Exp (exp.Int w)) m = absurd (cc m)
block_form (form.Spec (spec.Storage c)) m = absurd (cc m)
block_form (form.Item item.Function) m = absurd (cc m)
block_form (form.Template (template.Many k)) m = absurd (cc m)
block_form (form.Group group.List) m = absurd (cc m)
block_form _ m = absurd (cc m)

pub init_declarator_form : (f : Form) → may_be s.InitDeclarator f ≡ true → f ≡ form.Group group.InitDeclarator
init_declarator_form (form.Group group.InitDeclarator) m = refl
init_declarator_form (form.Exp (exp.Int w)) m = absurd (cc m)
init_declarator_form (form.Spec (spec.Storage c)) m = absurd (cc m)
init_declarator_form (form.Stmt stmt.Block) m = absurd (cc m)
init_declarator_form (form.Item item.Function) m = absurd (cc m)
init_declarator_form (form.Template (template.Many k)) m = absurd (cc m)
init_declarator_form (form.Group group.List) m = absurd (cc m)
init_declarator_form _ m = absurd (cc m)

pub initializer_form : (f : Form) → may_be s.Initializer f ≡ true → f ≡ form.Group group.Initializer
initializer_form (form.Group group.Initializer) m = refl
initializer_form (form.Exp (exp.Int w)) m = absurd (cc m)
initializer_form (form.Spec (spec.Storage c)) m = absurd (cc m)
initializer_form (form.Stmt stmt.Block) m = absurd (cc m)
initializer_form (form.Item item.Function) m = absurd (cc m)
initializer_form (form.Template (template.Many k)) m = absurd (cc m)
initializer_form (form.Group group.List) m = absurd (cc m)
initializer_form _ m = absurd (cc m)

pub member_declarator_form : (f : Form) → may_be s.MemberDeclarator f ≡ true → f ≡ form.Group group.MemberDeclarator
member_declarator_form (form.Group group.MemberDeclarator) m = refl
member_declarator_form (form.Exp (exp.Int w)) m = absurd (cc m)
member_declarator_form (form.Spec (spec.Storage c)) m = absurd (cc m)
member_declarator_form (form.Stmt stmt.Block) m = absurd (cc m)
member_declarator_form (form.Item item.Function) m = absurd (cc m)
member_declarator_form (form.Template (template.Many k)) m = absurd (cc m)
member_declarator_form (form.Group group.List) m = absurd (cc m)
member_declarator_form _ m = absurd (cc m)

pub width_form : (f : Form) → may_be s.Width f ≡ true → f ≡ form.Group group.Width
width_form (form.Group group.Width) m = refl
width_form (form.Exp (exp.Int w)) m = absurd (cc m)
width_form (form.Spec (spec.Storage c)) m = absurd (cc m)
width_form (form.Stmt stmt.Block) m = absurd (cc m)
width_form (form.Item item.Function) m = absurd (cc m)
width_form (form.Template (template.Many k)) m = absurd (cc m)
width_form (form.Group group.List) m = absurd (cc m)
width_form _ m = absurd (cc m)

pub members_form : (f : Form) → may_be s.Members f ≡ true → f ≡ form.Group group.Members
members_form (form.Group group.Members) m = refl
members_form (form.Exp (exp.Int w)) m = absurd (cc m)
members_form (form.Spec (spec.Storage c)) m = absurd (cc m)
members_form (form.Stmt stmt.Block) m = absurd (cc m)
members_form (form.Item item.Function) m = absurd (cc m)
members_form (form.Template (template.Many k)) m = absurd (cc m)
members_form (form.Group group.List) m = absurd (cc m)
members_form _ m = absurd (cc m)

pub enumerators_form : (f : Form) → may_be s.Enumerators f ≡ true → f ≡ form.Group group.Enumerators
enumerators_form (form.Group group.Enumerators) m = refl
enumerators_form (form.Exp (exp.Int w)) m = absurd (cc m)
enumerators_form (form.Spec (spec.Storage c)) m = absurd (cc m)
enumerators_form (form.Stmt stmt.Block) m = absurd (cc m)
enumerators_form (form.Item item.Function) m = absurd (cc m)
enumerators_form (form.Template (template.Many k)) m = absurd (cc m)
enumerators_form (form.Group group.List) m = absurd (cc m)
enumerators_form _ m = absurd (cc m)

pub enumerator_value_form : (f : Form) → may_be s.EnumeratorValue f ≡ true → f ≡ form.Group group.EnumeratorValue
enumerator_value_form (form.Group group.EnumeratorValue) m = refl
enumerator_value_form (form.Exp (exp.Int w)) m = absurd (cc m)
enumerator_value_form (form.Spec (spec.Storage c)) m = absurd (cc m)
enumerator_value_form (form.Stmt stmt.Block) m = absurd (cc m)
enumerator_value_form (form.Item item.Function) m = absurd (cc m)
enumerator_value_form (form.Template (template.Many k)) m = absurd (cc m)
enumerator_value_form (form.Group group.List) m = absurd (cc m)
enumerator_value_form _ m = absurd (cc m)

pub else_part_form : (f : Form) → may_be s.ElsePart f ≡ true → f ≡ form.Group group.ElsePart
else_part_form (form.Group group.ElsePart) m = refl
else_part_form (form.Exp (exp.Int w)) m = absurd (cc m)
else_part_form (form.Spec (spec.Storage c)) m = absurd (cc m)
else_part_form (form.Stmt stmt.Block) m = absurd (cc m)
else_part_form (form.Item item.Function) m = absurd (cc m)
else_part_form (form.Template (template.Many k)) m = absurd (cc m)
else_part_form (form.Group group.List) m = absurd (cc m)
else_part_form _ m = absurd (cc m)

abbrev pub is_spec : Form → Bool
is_spec (form.Spec f) = true
is_spec f = false

pub spec_is : (f : Form) → may_be s.Spec f ≡ true → is_spec f ≡ true
spec_is (form.Spec f) m = refl
spec_is (form.Exp (exp.Int w)) m = absurd (cc m)
spec_is (form.Stmt stmt.Block) m = absurd (cc m)
spec_is (form.Item item.Function) m = absurd (cc m)
spec_is (form.Template (template.Many k)) m = absurd (cc m)
spec_is (form.Group group.List) m = absurd (cc m)
spec_is _ m = absurd (cc m)

pub plain_spec_is : (f : Form) → may_be s.PlainSpec f ≡ true → is_spec f ≡ true
plain_spec_is (form.Spec f) m = refl
plain_spec_is (form.Exp (exp.Int w)) m = absurd (cc m)
plain_spec_is (form.Stmt stmt.Block) m = absurd (cc m)
plain_spec_is (form.Item item.Function) m = absurd (cc m)
plain_spec_is (form.Template (template.Many k)) m = absurd (cc m)
plain_spec_is (form.Group group.List) m = absurd (cc m)
plain_spec_is _ m = absurd (cc m)

pub qualifier_is : (f : Form) → may_be s.Qualifier f ≡ true → is_spec f ≡ true
qualifier_is (form.Spec f) m = refl
qualifier_is (form.Exp (exp.Int w)) m = absurd (cc m)
qualifier_is (form.Stmt stmt.Block) m = absurd (cc m)
qualifier_is (form.Item item.Function) m = absurd (cc m)
qualifier_is (form.Template (template.Many k)) m = absurd (cc m)
qualifier_is (form.Group group.List) m = absurd (cc m)
qualifier_is _ m = absurd (cc m)

pub init_is : (f : Form) → may_be s.Init f ≡ true → (f ≡ form.Init init.One) ⊎ (f ≡ form.Init init.Braces)
init_is (form.Init init.One) m = inl refl
init_is (form.Init init.Braces) m = inr refl
init_is (form.Exp (exp.Int w)) m = absurd (cc m)
init_is (form.Spec (spec.Storage c)) m = absurd (cc m)
init_is (form.Stmt stmt.Block) m = absurd (cc m)
init_is (form.Item item.Function) m = absurd (cc m)
init_is (form.Template (template.Many k)) m = absurd (cc m)
init_is (form.Group group.List) m = absurd (cc m)
init_is _ m = absurd (cc m)

pub params_is : (f : Form) → may_be s.Params f ≡ true → (f ≡ form.Params params.Ids) ⊎ ((f ≡ form.Params params.Typed) ⊎ (f ≡ form.Params params.TypedAndMore))
params_is (form.Params params.Ids) m = inl refl
params_is (form.Params params.Typed) m = inr (inl refl)
params_is (form.Params params.TypedAndMore) m = inr (inr refl)
params_is (form.Exp (exp.Int w)) m = absurd (cc m)
params_is (form.Spec (spec.Storage c)) m = absurd (cc m)
params_is (form.Stmt stmt.Block) m = absurd (cc m)
params_is (form.Item item.Function) m = absurd (cc m)
params_is (form.Template (template.Many k)) m = absurd (cc m)
params_is (form.Group group.List) m = absurd (cc m)
params_is _ m = absurd (cc m)

pub exp_is : (f : Form) → may_be s.Exp f ≡ true → (g : ExpForm) × (f ≡ form.Exp g)
exp_is (form.Exp g) m = (g, refl)
exp_is (form.Spec (spec.Storage c)) m = absurd (cc m)
exp_is (form.Stmt stmt.Block) m = absurd (cc m)
exp_is (form.Item item.Function) m = absurd (cc m)
exp_is (form.Template (template.Many k)) m = absurd (cc m)
exp_is (form.Group group.List) m = absurd (cc m)
exp_is _ m = absurd (cc m)

pub declarator_is : (f : Form) → may_be s.Declarator f ≡ true → (g : DeclaratorForm) × (f ≡ form.Declarator g)
declarator_is (form.Declarator g) m = (g, refl)
declarator_is (form.Exp (exp.Int w)) m = absurd (cc m)
declarator_is (form.Spec (spec.Storage c)) m = absurd (cc m)
declarator_is (form.Stmt stmt.Block) m = absurd (cc m)
declarator_is (form.Item item.Function) m = absurd (cc m)
declarator_is (form.Template (template.Many k)) m = absurd (cc m)
declarator_is (form.Group group.List) m = absurd (cc m)
declarator_is _ m = absurd (cc m)

pub abstract_is : (f : Form) → may_be s.AbstractDeclarator f ≡ true → (g : DeclaratorForm) × (f ≡ form.Declarator g)
abstract_is (form.Declarator g) m = (g, refl)
abstract_is (form.Exp (exp.Int w)) m = absurd (cc m)
abstract_is (form.Spec (spec.Storage c)) m = absurd (cc m)
abstract_is (form.Stmt stmt.Block) m = absurd (cc m)
abstract_is (form.Item item.Function) m = absurd (cc m)
abstract_is (form.Template (template.Many k)) m = absurd (cc m)
abstract_is (form.Group group.List) m = absurd (cc m)
abstract_is _ m = absurd (cc m)

pub param_is : (f : Form) → may_be s.ParamDeclarator f ≡ true → (g : DeclaratorForm) × (f ≡ form.Declarator g)
param_is (form.Declarator g) m = (g, refl)
param_is (form.Exp (exp.Int w)) m = absurd (cc m)
param_is (form.Spec (spec.Storage c)) m = absurd (cc m)
param_is (form.Stmt stmt.Block) m = absurd (cc m)
param_is (form.Item item.Function) m = absurd (cc m)
param_is (form.Template (template.Many k)) m = absurd (cc m)
param_is (form.Group group.List) m = absurd (cc m)
param_is _ m = absurd (cc m)

pub member_name_is : (f : Form) → may_be s.MemberName f ≡ true → (g : DeclaratorForm) × (f ≡ form.Declarator g)
member_name_is (form.Declarator g) m = (g, refl)
member_name_is (form.Exp (exp.Int w)) m = absurd (cc m)
member_name_is (form.Spec (spec.Storage c)) m = absurd (cc m)
member_name_is (form.Stmt stmt.Block) m = absurd (cc m)
member_name_is (form.Item item.Function) m = absurd (cc m)
member_name_is (form.Template (template.Many k)) m = absurd (cc m)
member_name_is (form.Group group.List) m = absurd (cc m)
member_name_is _ m = absurd (cc m)

pub stmt_is : (f : Form) → may_be s.Stmt f ≡ true → (g : StmtForm) × (f ≡ form.Stmt g)
stmt_is (form.Stmt g) m = (g, refl)
stmt_is (form.Exp (exp.Int w)) m = absurd (cc m)
stmt_is (form.Spec (spec.Storage c)) m = absurd (cc m)
stmt_is (form.Item item.Function) m = absurd (cc m)
stmt_is (form.Template (template.Many k)) m = absurd (cc m)
stmt_is (form.Group group.List) m = absurd (cc m)
stmt_is _ m = absurd (cc m)

pub item_is : (f : Form) → may_be s.Item f ≡ true → (f ≡ form.Item item.Function) ⊎ (f ≡ form.Item item.Declaration)
item_is (form.Item item.Function) m = inl refl
item_is (form.Item item.Declaration) m = inr refl
item_is (form.Exp (exp.Int w)) m = absurd (cc m)
item_is (form.Spec (spec.Storage c)) m = absurd (cc m)
item_is (form.Stmt stmt.Block) m = absurd (cc m)
item_is (form.Template (template.Many k)) m = absurd (cc m)
item_is (form.Group group.List) m = absurd (cc m)
item_is _ m = absurd (cc m)

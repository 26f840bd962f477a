-- Each form of plain C fits, as each sort that it may stand for.
use Rattle.std.proofs.Common.{◌≡◌, refl, Bool, true, false}
use Rattle.c_forms.specs.declared.pieces.Sort.{Sort}
use Rattle.c_forms.specs.declared.pieces.Sort.TheVariants as s
use Rattle.c_forms.specs.declared.operators.StorageClass.TheVariants as storage
use Rattle.c_forms.specs.declared.operators.TypeQualifier.TheVariants as qualifier
use Rattle.c_forms.specs.declared.operators.BasicType.TheVariants as basic
use Rattle.c_forms.specs.declared.operators.StructOrUnion.TheVariants as group_of
use Rattle.c_forms.specs.declared.forms.Form.{Form}
use Rattle.c_forms.specs.declared.forms.Form.TheVariants as form
use Rattle.c_forms.specs.declared.forms.ExpForm.TheVariants as exp
use Rattle.c_forms.specs.declared.forms.SpecForm.TheVariants as spec
use Rattle.c_forms.specs.declared.forms.ParamsForm.TheVariants as params
use Rattle.c_forms.specs.declared.forms.InitForm.TheVariants as init
use Rattle.c_forms.specs.declared.forms.StmtForm.TheVariants as stmt
use Rattle.c_forms.specs.declared.forms.ItemForm.TheVariants as item
use Rattle.c_forms.specs.declared.forms.TemplateForm.TheVariants as template
use Rattle.c_forms.specs.declared.forms.GroupForm.TheVariants as group
use Rattle.c_syntax.specs.Spells.{may_be}
use Rattle.c_spelled.specs.Fitting.{row_fits}
use Rattle.c_spelled.proofs.LeveledRows.{exp_rows, declarator_rows, abstract_declarator_rows, param_declarator_rows, member_name_rows}

spec_rows : (f : Form) → may_be s.Spec f ≡ true → row_fits s.Spec f ≡ true
spec_rows (form.Spec (spec.Storage storage.Typedef)) m = refl
spec_rows (form.Spec (spec.Storage storage.Extern)) m = refl
spec_rows (form.Spec (spec.Storage storage.Static)) m = refl
spec_rows (form.Spec (spec.Storage storage.Auto)) m = refl
spec_rows (form.Spec (spec.Storage storage.Register)) m = refl
spec_rows (form.Spec (spec.Qualifier qualifier.Const)) m = refl
spec_rows (form.Spec (spec.Qualifier qualifier.Volatile)) m = refl
spec_rows (form.Spec (spec.Basic basic.Void)) m = refl
spec_rows (form.Spec (spec.Basic basic.Char)) m = refl
spec_rows (form.Spec (spec.Basic basic.Short)) m = refl
spec_rows (form.Spec (spec.Basic basic.Int)) m = refl
spec_rows (form.Spec (spec.Basic basic.Long)) m = refl
spec_rows (form.Spec (spec.Basic basic.Float)) m = refl
spec_rows (form.Spec (spec.Basic basic.Double)) m = refl
spec_rows (form.Spec (spec.Basic basic.Signed)) m = refl
spec_rows (form.Spec (spec.Basic basic.Unsigned)) m = refl
spec_rows (form.Spec (spec.Typedef w)) m = refl
spec_rows (form.Spec (spec.StructOf group_of.Struct)) m = refl
spec_rows (form.Spec (spec.StructOf group_of.Union)) m = refl
spec_rows (form.Spec spec.EnumOf) m = refl
spec_rows (form.Exp (exp.Int w)) m = absurd (cc m)
spec_rows (form.Stmt stmt.Block) m = absurd (cc m)
spec_rows (form.Item item.Function) m = absurd (cc m)
spec_rows (form.Template (template.Many k)) m = absurd (cc m)
spec_rows (form.Group group.List) m = absurd (cc m)
spec_rows _ m = absurd (cc m)

plain_spec_rows : (f : Form) → may_be s.PlainSpec f ≡ true → row_fits s.PlainSpec f ≡ true
plain_spec_rows (form.Spec (spec.Qualifier qualifier.Const)) m = refl
plain_spec_rows (form.Spec (spec.Qualifier qualifier.Volatile)) m = refl
plain_spec_rows (form.Spec (spec.Basic basic.Void)) m = refl
plain_spec_rows (form.Spec (spec.Basic basic.Char)) m = refl
plain_spec_rows (form.Spec (spec.Basic basic.Short)) m = refl
plain_spec_rows (form.Spec (spec.Basic basic.Int)) m = refl
plain_spec_rows (form.Spec (spec.Basic basic.Long)) m = refl
plain_spec_rows (form.Spec (spec.Basic basic.Float)) m = refl
plain_spec_rows (form.Spec (spec.Basic basic.Double)) m = refl
plain_spec_rows (form.Spec (spec.Basic basic.Signed)) m = refl
plain_spec_rows (form.Spec (spec.Basic basic.Unsigned)) m = refl
plain_spec_rows (form.Spec (spec.Typedef w)) m = refl
plain_spec_rows (form.Spec (spec.StructOf group_of.Struct)) m = refl
plain_spec_rows (form.Spec (spec.StructOf group_of.Union)) m = refl
plain_spec_rows (form.Spec spec.EnumOf) m = refl
plain_spec_rows (form.Exp (exp.Int w)) m = absurd (cc m)
plain_spec_rows (form.Spec (spec.Storage c)) m = absurd (cc m)
plain_spec_rows (form.Stmt stmt.Block) m = absurd (cc m)
plain_spec_rows (form.Item item.Function) m = absurd (cc m)
plain_spec_rows (form.Template (template.Many k)) m = absurd (cc m)
plain_spec_rows (form.Group group.List) m = absurd (cc m)
plain_spec_rows _ m = absurd (cc m)

qualifier_rows : (f : Form) → may_be s.Qualifier f ≡ true → row_fits s.Qualifier f ≡ true
qualifier_rows (form.Spec (spec.Qualifier qualifier.Const)) m = refl
qualifier_rows (form.Spec (spec.Qualifier qualifier.Volatile)) m = refl
qualifier_rows (form.Exp (exp.Int w)) m = absurd (cc m)
qualifier_rows (form.Spec (spec.Storage c)) m = absurd (cc m)
qualifier_rows (form.Stmt stmt.Block) m = absurd (cc m)
qualifier_rows (form.Item item.Function) m = absurd (cc m)
qualifier_rows (form.Template (template.Many k)) m = absurd (cc m)
qualifier_rows (form.Group group.List) m = absurd (cc m)
qualifier_rows _ m = absurd (cc m)

type_name_rows : (f : Form) → may_be s.TypeName f ≡ true → row_fits s.TypeName f ≡ true
type_name_rows (form.TypeName) m = refl
type_name_rows (form.Exp (exp.Int w)) m = absurd (cc m)
type_name_rows (form.Spec (spec.Storage c)) m = absurd (cc m)
type_name_rows (form.Stmt stmt.Block) m = absurd (cc m)
type_name_rows (form.Item item.Function) m = absurd (cc m)
type_name_rows (form.Template (template.Many k)) m = absurd (cc m)
type_name_rows (form.Group group.List) m = absurd (cc m)
type_name_rows _ m = absurd (cc m)

member_rows : (f : Form) → may_be s.Member f ≡ true → row_fits s.Member f ≡ true
member_rows (form.Member) m = refl
member_rows (form.Exp (exp.Int w)) m = absurd (cc m)
member_rows (form.Spec (spec.Storage c)) m = absurd (cc m)
member_rows (form.Stmt stmt.Block) m = absurd (cc m)
member_rows (form.Item item.Function) m = absurd (cc m)
member_rows (form.Template (template.Many k)) m = absurd (cc m)
member_rows (form.Group group.List) m = absurd (cc m)
member_rows _ m = absurd (cc m)

enumerator_rows : (f : Form) → may_be s.Enumerator f ≡ true → row_fits s.Enumerator f ≡ true
enumerator_rows (form.Enumerator) m = refl
enumerator_rows (form.Exp (exp.Int w)) m = absurd (cc m)
enumerator_rows (form.Spec (spec.Storage c)) m = absurd (cc m)
enumerator_rows (form.Stmt stmt.Block) m = absurd (cc m)
enumerator_rows (form.Item item.Function) m = absurd (cc m)
enumerator_rows (form.Template (template.Many k)) m = absurd (cc m)
enumerator_rows (form.Group group.List) m = absurd (cc m)
enumerator_rows _ m = absurd (cc m)

params_rows : (f : Form) → may_be s.Params f ≡ true → row_fits s.Params f ≡ true
params_rows (form.Params params.Ids) m = refl
params_rows (form.Params params.Typed) m = refl
params_rows (form.Params params.TypedAndMore) m = refl
params_rows (form.Exp (exp.Int w)) m = absurd (cc m)
params_rows (form.Spec (spec.Storage c)) m = absurd (cc m)
params_rows (form.Stmt stmt.Block) m = absurd (cc m)
params_rows (form.Item item.Function) m = absurd (cc m)
params_rows (form.Template (template.Many k)) m = absurd (cc m)
params_rows (form.Group group.List) m = absurd (cc m)
params_rows _ m = absurd (cc m)

param_rows : (f : Form) → may_be s.Param f ≡ true → row_fits s.Param f ≡ true
param_rows (form.Param) m = refl
param_rows (form.Exp (exp.Int w)) m = absurd (cc m)
param_rows (form.Spec (spec.Storage c)) m = absurd (cc m)
param_rows (form.Stmt stmt.Block) m = absurd (cc m)
param_rows (form.Item item.Function) m = absurd (cc m)
param_rows (form.Template (template.Many k)) m = absurd (cc m)
param_rows (form.Group group.List) m = absurd (cc m)
param_rows _ m = absurd (cc m)

init_rows : (f : Form) → may_be s.Init f ≡ true → row_fits s.Init f ≡ true
init_rows (form.Init init.One) m = refl
init_rows (form.Init init.Braces) m = refl
init_rows (form.Exp (exp.Int w)) m = absurd (cc m)
init_rows (form.Spec (spec.Storage c)) m = absurd (cc m)
init_rows (form.Stmt stmt.Block) m = absurd (cc m)
init_rows (form.Item item.Function) m = absurd (cc m)
init_rows (form.Template (template.Many k)) m = absurd (cc m)
init_rows (form.Group group.List) m = absurd (cc m)
init_rows _ m = absurd (cc m)

decl_rows : (f : Form) → may_be s.Decl f ≡ true → row_fits s.Decl f ≡ true
decl_rows (form.Decl) m = refl
decl_rows (form.Exp (exp.Int w)) m = absurd (cc m)
decl_rows (form.Spec (spec.Storage c)) m = absurd (cc m)
decl_rows (form.Stmt stmt.Block) m = absurd (cc m)
decl_rows (form.Item item.Function) m = absurd (cc m)
decl_rows (form.Template (template.Many k)) m = absurd (cc m)
decl_rows (form.Group group.List) m = absurd (cc m)
decl_rows _ m = absurd (cc m)

stmt_rows : (f : Form) → may_be s.Stmt f ≡ true → row_fits s.Stmt f ≡ true
stmt_rows (form.Stmt stmt.Label) m = refl
stmt_rows (form.Stmt stmt.Case) m = refl
stmt_rows (form.Stmt stmt.Default) m = refl
stmt_rows (form.Stmt stmt.Express) m = refl
stmt_rows (form.Stmt stmt.Empty) m = refl
stmt_rows (form.Stmt stmt.Block) m = refl
stmt_rows (form.Stmt stmt.If) m = refl
stmt_rows (form.Stmt stmt.Switch) m = refl
stmt_rows (form.Stmt stmt.While) m = refl
stmt_rows (form.Stmt stmt.Do) m = refl
stmt_rows (form.Stmt stmt.For) m = refl
stmt_rows (form.Stmt stmt.Goto) m = refl
stmt_rows (form.Stmt stmt.Continue) m = refl
stmt_rows (form.Stmt stmt.Break) m = refl
stmt_rows (form.Stmt stmt.Return) m = refl
stmt_rows (form.Exp (exp.Int w)) m = absurd (cc m)
stmt_rows (form.Spec (spec.Storage c)) m = absurd (cc m)
stmt_rows (form.Item item.Function) m = absurd (cc m)
stmt_rows (form.Template (template.Many k)) m = absurd (cc m)
stmt_rows (form.Group group.List) m = absurd (cc m)
stmt_rows _ m = absurd (cc m)

block_rows : (f : Form) → may_be s.Block f ≡ true → row_fits s.Block f ≡ true
block_rows (form.Stmt stmt.Block) m = refl
block_rows (form.Exp (exp.Int w)) m = absurd (cc m)
block_rows (form.Spec (spec.Storage c)) m = absurd (cc m)
block_rows (form.Item item.Function) m = absurd (cc m)
block_rows (form.Template (template.Many k)) m = absurd (cc m)
block_rows (form.Group group.List) m = absurd (cc m)
block_rows _ m = absurd (cc m)

init_declarator_rows : (f : Form) → may_be s.InitDeclarator f ≡ true → row_fits s.InitDeclarator f ≡ true
init_declarator_rows (form.Group group.InitDeclarator) m = refl
init_declarator_rows (form.Exp (exp.Int w)) m = absurd (cc m)
init_declarator_rows (form.Spec (spec.Storage c)) m = absurd (cc m)
init_declarator_rows (form.Stmt stmt.Block) m = absurd (cc m)
init_declarator_rows (form.Item item.Function) m = absurd (cc m)
init_declarator_rows (form.Template (template.Many k)) m = absurd (cc m)
init_declarator_rows (form.Group group.List) m = absurd (cc m)
init_declarator_rows _ m = absurd (cc m)

initializer_rows : (f : Form) → may_be s.Initializer f ≡ true → row_fits s.Initializer f ≡ true
initializer_rows (form.Group group.Initializer) m = refl
initializer_rows (form.Exp (exp.Int w)) m = absurd (cc m)
initializer_rows (form.Spec (spec.Storage c)) m = absurd (cc m)
initializer_rows (form.Stmt stmt.Block) m = absurd (cc m)
initializer_rows (form.Item item.Function) m = absurd (cc m)
initializer_rows (form.Template (template.Many k)) m = absurd (cc m)
initializer_rows (form.Group group.List) m = absurd (cc m)
initializer_rows _ m = absurd (cc m)

member_declarator_rows : (f : Form) → may_be s.MemberDeclarator f ≡ true → row_fits s.MemberDeclarator f ≡ true
member_declarator_rows (form.Group group.MemberDeclarator) m = refl
member_declarator_rows (form.Exp (exp.Int w)) m = absurd (cc m)
member_declarator_rows (form.Spec (spec.Storage c)) m = absurd (cc m)
member_declarator_rows (form.Stmt stmt.Block) m = absurd (cc m)
member_declarator_rows (form.Item item.Function) m = absurd (cc m)
member_declarator_rows (form.Template (template.Many k)) m = absurd (cc m)
member_declarator_rows (form.Group group.List) m = absurd (cc m)
member_declarator_rows _ m = absurd (cc m)

width_rows : (f : Form) → may_be s.Width f ≡ true → row_fits s.Width f ≡ true
width_rows (form.Group group.Width) m = refl
width_rows (form.Exp (exp.Int w)) m = absurd (cc m)
width_rows (form.Spec (spec.Storage c)) m = absurd (cc m)
width_rows (form.Stmt stmt.Block) m = absurd (cc m)
width_rows (form.Item item.Function) m = absurd (cc m)
width_rows (form.Template (template.Many k)) m = absurd (cc m)
width_rows (form.Group group.List) m = absurd (cc m)
width_rows _ m = absurd (cc m)

members_rows : (f : Form) → may_be s.Members f ≡ true → row_fits s.Members f ≡ true
members_rows (form.Group group.Members) m = refl
members_rows (form.Exp (exp.Int w)) m = absurd (cc m)
members_rows (form.Spec (spec.Storage c)) m = absurd (cc m)
members_rows (form.Stmt stmt.Block) m = absurd (cc m)
members_rows (form.Item item.Function) m = absurd (cc m)
members_rows (form.Template (template.Many k)) m = absurd (cc m)
members_rows (form.Group group.List) m = absurd (cc m)
members_rows _ m = absurd (cc m)

enumerators_rows : (f : Form) → may_be s.Enumerators f ≡ true → row_fits s.Enumerators f ≡ true
enumerators_rows (form.Group group.Enumerators) m = refl
enumerators_rows (form.Exp (exp.Int w)) m = absurd (cc m)
enumerators_rows (form.Spec (spec.Storage c)) m = absurd (cc m)
enumerators_rows (form.Stmt stmt.Block) m = absurd (cc m)
enumerators_rows (form.Item item.Function) m = absurd (cc m)
enumerators_rows (form.Template (template.Many k)) m = absurd (cc m)
enumerators_rows (form.Group group.List) m = absurd (cc m)
enumerators_rows _ m = absurd (cc m)

enumerator_value_rows : (f : Form) → may_be s.EnumeratorValue f ≡ true → row_fits s.EnumeratorValue f ≡ true
enumerator_value_rows (form.Group group.EnumeratorValue) m = refl
enumerator_value_rows (form.Exp (exp.Int w)) m = absurd (cc m)
enumerator_value_rows (form.Spec (spec.Storage c)) m = absurd (cc m)
enumerator_value_rows (form.Stmt stmt.Block) m = absurd (cc m)
enumerator_value_rows (form.Item item.Function) m = absurd (cc m)
enumerator_value_rows (form.Template (template.Many k)) m = absurd (cc m)
enumerator_value_rows (form.Group group.List) m = absurd (cc m)
enumerator_value_rows _ m = absurd (cc m)

else_part_rows : (f : Form) → may_be s.ElsePart f ≡ true → row_fits s.ElsePart f ≡ true
else_part_rows (form.Group group.ElsePart) m = refl
else_part_rows (form.Exp (exp.Int w)) m = absurd (cc m)
else_part_rows (form.Spec (spec.Storage c)) m = absurd (cc m)
else_part_rows (form.Stmt stmt.Block) m = absurd (cc m)
else_part_rows (form.Item item.Function) m = absurd (cc m)
else_part_rows (form.Template (template.Many k)) m = absurd (cc m)
else_part_rows (form.Group group.List) m = absurd (cc m)
else_part_rows _ m = absurd (cc m)

-- whether a tree of a sort is a node with a row
abbrev pub has_row : Sort → Bool
has_row s.Exp = true
has_row s.Declarator = true
has_row s.AbstractDeclarator = true
has_row s.ParamDeclarator = true
has_row s.MemberName = true
has_row s.Spec = true
has_row s.PlainSpec = true
has_row s.Qualifier = true
has_row s.TypeName = true
has_row s.Member = true
has_row s.Enumerator = true
has_row s.Params = true
has_row s.Param = true
has_row s.Init = true
has_row s.Decl = true
has_row s.Stmt = true
has_row s.Block = true
has_row s.InitDeclarator = true
has_row s.Initializer = true
has_row s.MemberDeclarator = true
has_row s.Width = true
has_row s.Members = true
has_row s.Enumerators = true
has_row s.EnumeratorValue = true
has_row s.ElsePart = true
has_row _ = false

pub rows : (due : Sort) (f : Form) → has_row due ≡ true → may_be due f ≡ true → row_fits due f ≡ true
rows s.Exp f h m = exp_rows f m
rows s.Declarator f h m = declarator_rows f m
rows s.AbstractDeclarator f h m = abstract_declarator_rows f m
rows s.ParamDeclarator f h m = param_declarator_rows f m
rows s.MemberName f h m = member_name_rows f m
rows s.Spec f h m = spec_rows f m
rows s.PlainSpec f h m = plain_spec_rows f m
rows s.Qualifier f h m = qualifier_rows f m
rows s.TypeName f h m = type_name_rows f m
rows s.Member f h m = member_rows f m
rows s.Enumerator f h m = enumerator_rows f m
rows s.Params f h m = params_rows f m
rows s.Param f h m = param_rows f m
rows s.Init f h m = init_rows f m
rows s.Decl f h m = decl_rows f m
rows s.Stmt f h m = stmt_rows f m
rows s.Block f h m = block_rows f m
rows s.InitDeclarator f h m = init_declarator_rows f m
rows s.Initializer f h m = initializer_rows f m
rows s.MemberDeclarator f h m = member_declarator_rows f m
rows s.Width f h m = width_rows f m
rows s.Members f h m = members_rows f m
rows s.Enumerators f h m = enumerators_rows f m
rows s.EnumeratorValue f h m = enumerator_value_rows f m
rows s.ElsePart f h m = else_part_rows f m
rows _ f h m = absurd (cc h)

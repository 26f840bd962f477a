-- Rows ask for no token that is the end of the source.
use Rattle.std.proofs.Common.{◌≡◌, refl, ℕ, ◌<◌, zero, suc, length, Bool, true, false, ◌&&◌, List, [], ◌∷◌, slice_index_or, arith}
use Rattle.c_forms.specs.declared.pieces.Piece.{Piece}
use Rattle.c_forms.specs.declared.forms.Form.{Form}
use Rattle.c_forms.specs.declared.forms.Form.TheVariants as form
use Rattle.c_forms.specs.declared.forms.ExpForm.{ExpForm}
use Rattle.c_forms.specs.declared.forms.ExpForm.TheVariants as exp
use Rattle.c_forms.specs.declared.forms.SpecForm.{SpecForm}
use Rattle.c_forms.specs.declared.forms.SpecForm.TheVariants as spec
use Rattle.c_forms.specs.declared.forms.MetaExpForm.{MetaExpForm}
use Rattle.c_forms.specs.declared.forms.MetaExpForm.TheVariants as meta_exp
use Rattle.c_forms.specs.declared.forms.TemplateForm.{TemplateForm}
use Rattle.c_forms.specs.declared.forms.TemplateForm.TheVariants as template
use Rattle.c_forms.specs.declared.forms.HoleForm.{HoleForm}
use Rattle.c_forms.specs.declared.forms.HoleForm.TheVariants as hole
use Rattle.c_forms.specs.declared.forms.DeclaratorForm.{DeclaratorForm}
use Rattle.c_forms.specs.declared.forms.DeclaratorForm.TheVariants as declarator
use Rattle.c_forms.specs.declared.forms.ParamsForm.{ParamsForm}
use Rattle.c_forms.specs.declared.forms.ParamsForm.TheVariants as params
use Rattle.c_forms.specs.declared.forms.InitForm.{InitForm}
use Rattle.c_forms.specs.declared.forms.InitForm.TheVariants as init
use Rattle.c_forms.specs.declared.forms.StmtForm.{StmtForm}
use Rattle.c_forms.specs.declared.forms.StmtForm.TheVariants as stmt
use Rattle.c_forms.specs.declared.forms.ItemForm.{ItemForm}
use Rattle.c_forms.specs.declared.forms.ItemForm.TheVariants as item
use Rattle.c_forms.specs.declared.forms.MetaStmtForm.{MetaStmtForm}
use Rattle.c_forms.specs.declared.forms.MetaStmtForm.TheVariants as meta_stmt
use Rattle.c_forms.specs.declared.forms.GroupForm.{GroupForm}
use Rattle.c_forms.specs.declared.forms.GroupForm.TheVariants as group
use Rattle.c_forms.specs.declared.operators.UnaryOperator.TheVariants as unary
use Rattle.c_forms.specs.declared.operators.BinaryOperator.TheVariants as operator
use Rattle.c_forms.specs.declared.operators.AssignmentOperator.TheVariants as assignment
use Rattle.c_forms.specs.declared.operators.StorageClass.TheVariants as storage
use Rattle.c_forms.specs.declared.operators.TypeQualifier.TheVariants as qualifier
use Rattle.c_forms.specs.declared.operators.BasicType.TheVariants as basic
use Rattle.c_forms.specs.declared.operators.StructOrUnion.TheVariants as kind_of
use Rattle.c_forms.specs.declared.operators.MetaUnaryOperator.TheVariants as meta_unary
use Rattle.c_tokens.specs.declared.kind.Kind.TheVariants as kind
use Rattle.c_forms.specs.Measures.{pieces}
use Rattle.c_syntax.specs.Grammar.{after_first}
use Rattle.table_parser.specs.Sound.{are_sound, piece_sound, is_element}

both : (a b : Bool) → (a && b) ≡ true → (a ≡ true) × (b ≡ true)
both true b h = (refl, h)
both false b h = absurd (cc h)

exp_sound : (f : ExpForm) → are_sound (form.Exp f) (pieces (form.Exp f)) ≡ true
exp_sound (exp.Unary unary.Plus) = refl
exp_sound (exp.Unary _) = refl
exp_sound (exp.Binary operator.LogicalOr) = refl
exp_sound (exp.Binary _) = refl
exp_sound (exp.Assign assignment.Assign) = refl
exp_sound (exp.Assign _) = refl
exp_sound _ = refl

spec_sound : (f : SpecForm) → are_sound (form.Spec f) (pieces (form.Spec f)) ≡ true
spec_sound (spec.Storage storage.Typedef) = refl
spec_sound (spec.Storage _) = refl
spec_sound (spec.Qualifier qualifier.Const) = refl
spec_sound (spec.Qualifier _) = refl
spec_sound (spec.Basic basic.Void) = refl
spec_sound (spec.Basic _) = refl
spec_sound (spec.StructOf kind_of.Struct) = refl
spec_sound (spec.StructOf _) = refl
spec_sound _ = refl

meta_exp_sound : (f : MetaExpForm) → are_sound (form.MetaExp f) (pieces (form.MetaExp f)) ≡ true
meta_exp_sound (meta_exp.Unary meta_unary.Plus) = refl
meta_exp_sound (meta_exp.Unary _) = refl
meta_exp_sound (meta_exp.Binary operator.LogicalOr) = refl
meta_exp_sound (meta_exp.Binary _) = refl
meta_exp_sound _ = refl

template_sound : (f : TemplateForm) → are_sound (form.Template f) (pieces (form.Template f)) ≡ true
template_sound (template.One kind.Id) = refl
template_sound (template.One _) = refl
template_sound (template.Many kind.Id) = refl
template_sound (template.Many _) = refl
template_sound _ = refl

hole_sound : (f : HoleForm) → are_sound (form.Hole f) (pieces (form.Hole f)) ≡ true
hole_sound (hole.Computed kind.Id true) = refl
hole_sound (hole.Computed _ true) = refl
hole_sound (hole.Computed kind.Id false) = refl
hole_sound (hole.Computed _ false) = refl
hole_sound _ = refl

declarator_sound : (f : DeclaratorForm) → are_sound (form.Declarator f) (pieces (form.Declarator f)) ≡ true
declarator_sound declarator.Named = refl
declarator_sound _ = refl

params_sound : (f : ParamsForm) → are_sound (form.Params f) (pieces (form.Params f)) ≡ true
params_sound params.Ids = refl
params_sound _ = refl

init_sound : (f : InitForm) → are_sound (form.Init f) (pieces (form.Init f)) ≡ true
init_sound init.One = refl
init_sound _ = refl

stmt_sound : (f : StmtForm) → are_sound (form.Stmt f) (pieces (form.Stmt f)) ≡ true
stmt_sound stmt.Label = refl
stmt_sound _ = refl

item_sound : (f : ItemForm) → are_sound (form.Item f) (pieces (form.Item f)) ≡ true
item_sound item.Function = refl
item_sound _ = refl

meta_stmt_sound : (f : MetaStmtForm) → are_sound (form.MetaStmt f) (pieces (form.MetaStmt f)) ≡ true
meta_stmt_sound meta_stmt.Empty = refl
meta_stmt_sound _ = refl

group_sound : (f : GroupForm) → are_sound (form.Group f) (pieces (form.Group f)) ≡ true
group_sound group.List = refl
group_sound _ = refl

pub row_sound : (f : Form) → is_element f ≡ false → are_sound f (pieces f) ≡ true
row_sound (form.Element f) h = absurd (cc h)
row_sound (form.Exp f) h = exp_sound f
row_sound (form.Spec f) h = spec_sound f
row_sound (form.MetaExp f) h = meta_exp_sound f
row_sound (form.Template f) h = template_sound f
row_sound (form.Hole f) h = hole_sound f
row_sound (form.Declarator f) h = declarator_sound f
row_sound (form.Params f) h = params_sound f
row_sound (form.Init f) h = init_sound f
row_sound (form.Stmt f) h = stmt_sound f
row_sound (form.Item f) h = item_sound f
row_sound (form.MetaStmt f) h = meta_stmt_sound f
row_sound (form.Group f) h = group_sound f
row_sound _ h = refl

after_sound : (f : Form) (ps : List Piece) → are_sound f ps ≡ true → are_sound f (after_first ps) ≡ true
after_sound f [] h = refl
after_sound f (p ∷ ps) h = (both (piece_sound f p) (are_sound f ps) h).1

pub after_first_sound : (f : Form) → is_element f ≡ false → are_sound f (after_first (pieces f)) ≡ true
after_first_sound f h = after_sound f (pieces f) (row_sound f h)

-- each piece of a row
pub sound_at : (f : Form) (ps : List Piece) (k : ℕ) (d : Piece) → k < length ps → are_sound f ps ≡ true → piece_sound f (slice_index_or ps k d) ≡ true
sound_at f [] k d less h = absurd (omega (arith, less))
sound_at f (p ∷ ps) zero d less h = (both (piece_sound f p) (are_sound f ps) h).0
sound_at f (p ∷ ps) (suc k) d less h = sound_at f ps k d (omega (arith, less)) (both (piece_sound f p) (are_sound f ps) h).1

-- What may stand where plain C is due is of plain C, and an expression where one is due.
use Rattle.std.proofs.Common.{◌≡◌, refl, Bool, true, false, not, ◌&&◌}
use Rattle.c_tokens.specs.declared.token.Word.{Word}
use Rattle.c_forms.specs.declared.pieces.Sort.{Sort}
use Rattle.c_forms.specs.declared.pieces.Sort.TheVariants as s
use Rattle.c_forms.specs.declared.places.Occupant.{Occupant}
use Rattle.c_forms.specs.declared.places.Occupant.TheVariants as what
use Rattle.c_forms.specs.declared.forms.ExpForm.{ExpForm}
use Rattle.c_forms.specs.declared.forms.ExpForm.TheVariants as exp
use Rattle.c_forms.specs.declared.forms.SpecForm.{SpecForm}
use Rattle.c_forms.specs.declared.forms.SpecForm.TheVariants as spec
use Rattle.c_forms.specs.declared.forms.StmtForm.{StmtForm}
use Rattle.c_forms.specs.declared.forms.StmtForm.TheVariants as stmt
use Rattle.c_forms.specs.declared.forms.TemplateForm.{TemplateForm}
use Rattle.c_forms.specs.declared.forms.TemplateForm.TheVariants as template
use Rattle.c_forms.specs.declared.forms.GroupForm.{GroupForm}
use Rattle.c_forms.specs.declared.forms.GroupForm.TheVariants as group
use Rattle.c_forms.specs.declared.forms.Form.{Form}
use Rattle.c_forms.specs.declared.forms.Form.TheVariants as form
use Rattle.c_forms.specs.Measures.{is_plain}
use Rattle.c_forms.specs.Places.{serves, occupant_of, stands, stands_as, joins, joins_as}
use Rattle.text_tokens.specs.Plain.{is_of_c, is_of_c_as, is_c}
use Rattle.text_tokens.proofs.Places.{serves-of_c}
use Rattle.text_tokens.proofs.Tidy.{is_solid, is_solid_as}

abbrev is_sorted : Occupant → Bool
is_sorted (what.Sort sort) = true
is_sorted _ = false

plain_sorted : (f : Form) → is_plain f ≡ true → is_sorted (occupant_of f) ≡ true
plain_sorted (form.Hole f) h = absurd cc
plain_sorted (form.Call n gives tail) h = absurd cc
plain_sorted _ h = refl

joined_stands : (o : Occupant) (due : Sort) → is_sorted o ≡ true → joins_as o due ≡ true → stands_as o due ≡ true
joined_stands (what.Sort sort) due k h = h
joined_stands _ due k h = absurd cc

-- a form of plain C among elements may stand alone
pub joins-stands : (f : Form) (due : Sort) → is_plain f ≡ true → joins f due ≡ true → stands f due ≡ true
joins-stands f due p h = joined_stands (occupant_of f) due (plain_sorted f p) h

among_three : (a b c : Bool) → (not a && (b && c)) ≡ false → b ≡ true → c ≡ true → a ≡ true
among_three true b c h k l = refl
among_three false true true h k l = absurd cc
among_three false true false h k l = absurd cc
among_three false false c h k l = absurd cc

of_c_as : (o : Occupant) (due : Sort) → is_sorted o ≡ true → is_of_c due ≡ true → stands_as o due ≡ true → is_of_c_as o ≡ true
of_c_as (what.Sort sort) due k d h = among_three (is_of_c sort) (is_of_c due) (serves sort due) (serves-of_c sort due) d h
of_c_as _ due k d h = absurd cc

both_true : (a b : Bool) → a ≡ true → b ≡ true → (a && b) ≡ true
both_true true b h k = k
both_true false b h k = absurd cc

-- what stands where a sort of plain C is due
pub stands-is_c : (f : Form) (due : Sort) → is_plain f ≡ true → is_of_c due ≡ true → stands f due ≡ true → is_c f ≡ true
stands-is_c f due p d h = both_true (is_plain f) (is_of_c_as (occupant_of f)) p (of_c_as (occupant_of f) due (plain_sorted f p) d h)

serves_exp : (sort : Sort) → serves sort s.Exp ≡ true → is_solid sort ≡ true
serves_exp s.Exp h = refl
serves_exp s.Num h = refl
serves_exp s.Id h = refl
serves_exp s.Literal h = refl
serves_exp _ h = absurd cc

serves_num : (sort : Sort) → serves sort s.Num ≡ true → is_solid sort ≡ true
serves_num s.Exp h = refl
serves_num s.Num h = refl
serves_num s.Id h = refl
serves_num s.Literal h = refl
serves_num _ h = absurd cc

serves_id : (sort : Sort) → serves sort s.Id ≡ true → is_solid sort ≡ true
serves_id s.Exp h = refl
serves_id s.Num h = refl
serves_id s.Id h = refl
serves_id s.Literal h = refl
serves_id _ h = absurd cc

serves_literal : (sort : Sort) → serves sort s.Literal ≡ true → is_solid sort ≡ true
serves_literal s.Exp h = refl
serves_literal s.Num h = refl
serves_literal s.Id h = refl
serves_literal s.Literal h = refl
serves_literal _ h = absurd cc

serves_solid : (sort due : Sort) → is_solid due ≡ true → serves sort due ≡ true → is_solid sort ≡ true
serves_solid sort s.Exp d h = serves_exp sort h
serves_solid sort s.Num d h = serves_num sort h
serves_solid sort s.Id d h = serves_id sort h
serves_solid sort s.Literal d h = serves_literal sort h
serves_solid sort _ d h = absurd cc

solid_as : (o : Occupant) (due : Sort) → is_sorted o ≡ true → is_solid due ≡ true → stands_as o due ≡ true → is_solid_as o ≡ true
solid_as (what.Sort sort) due k d h = serves_solid sort due d h
solid_as _ due k d h = absurd cc

-- what stands where a sort is due whose nodes have a token
pub stands-solid : (f : Form) (due : Sort) → is_plain f ≡ true → is_solid due ≡ true → stands f due ≡ true → is_solid_as (occupant_of f) ≡ true
stands-solid f due p d h = solid_as (occupant_of f) due (plain_sorted f p) d h

-- ---- identifiers

no_exp : (f : ExpForm) → stands (form.Exp f) s.Id ≡ true → ⊥
no_exp (exp.Int w) h = absurd cc
no_exp _ h = absurd cc

no_spec : (f : SpecForm) → stands (form.Spec f) s.Id ≡ true → ⊥
no_spec (spec.Storage c) h = absurd cc
no_spec (spec.Qualifier q) h = absurd cc
no_spec _ h = absurd cc

no_stmt : (f : StmtForm) → stands (form.Stmt f) s.Id ≡ true → ⊥
no_stmt stmt.Block h = absurd cc
no_stmt _ h = absurd cc

no_template : (f : TemplateForm) → stands (form.Template f) s.Id ≡ true → ⊥
no_template (template.Many k) h = absurd cc
no_template _ h = absurd cc

no_group : (f : GroupForm) → stands (form.Group f) s.Id ≡ true → ⊥
no_group group.List h = absurd cc
no_group _ h = absurd cc

-- where an identifier is due as a part, one stands
pub stands-id : (f : Form) → is_plain f ≡ true → stands f s.Id ≡ true → (w : Word) × (f ≡ form.Id w)
stands-id (form.Id w) p h = (w, refl)
stands-id (form.Exp f) p h = absurd (no_exp f h)
stands-id (form.Spec f) p h = absurd (no_spec f h)
stands-id (form.Stmt f) p h = absurd (no_stmt f h)
stands-id (form.Template f) p h = absurd (no_template f h)
stands-id (form.Group f) p h = absurd (no_group f h)
stands-id (form.Hole f) p h = absurd cc
stands-id (form.Call n gives tail) p h = absurd cc
stands-id _ p h = absurd cc

-- ---- lists

no_list_exp : (f : ExpForm) → stands (form.Exp f) s.List ≡ true → ⊥
no_list_exp (exp.Int w) h = absurd cc
no_list_exp _ h = absurd cc

no_list_spec : (f : SpecForm) → stands (form.Spec f) s.List ≡ true → ⊥
no_list_spec (spec.Storage c) h = absurd cc
no_list_spec (spec.Qualifier q) h = absurd cc
no_list_spec _ h = absurd cc

no_list_stmt : (f : StmtForm) → stands (form.Stmt f) s.List ≡ true → ⊥
no_list_stmt stmt.Block h = absurd cc
no_list_stmt _ h = absurd cc

no_list_template : (f : TemplateForm) → stands (form.Template f) s.List ≡ true → ⊥
no_list_template (template.Many k) h = absurd cc
no_list_template _ h = absurd cc

list_group : (f : GroupForm) → stands (form.Group f) s.List ≡ true → form.Group f ≡ form.Group group.List
list_group group.List h = refl
list_group _ h = absurd cc

-- where a list is due, one stands
pub stands-list : (f : Form) → is_plain f ≡ true → stands f s.List ≡ true → f ≡ form.Group group.List
stands-list (form.Group f) p h = list_group f h
stands-list (form.Exp f) p h = absurd (no_list_exp f h)
stands-list (form.Spec f) p h = absurd (no_list_spec f h)
stands-list (form.Stmt f) p h = absurd (no_list_stmt f h)
stands-list (form.Template f) p h = absurd (no_list_template f h)
stands-list (form.Hole f) p h = absurd cc
stands-list (form.Call n gives tail) p h = absurd cc
stands-list _ p h = absurd cc

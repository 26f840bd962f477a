-- The token that a form holds is one of those that spell its node, or the form alone says it.
use Rattle.std.proofs.Common.{◌≡◌, refl, sym, subst, inl, inr, ℕ, Bool, true, false, ◌||◌, List, [], ◌∷◌, Option, Some, None}
use Rattle.c_tokens.specs.declared.token.Shape.{Shape}
use Rattle.c_tokens.specs.declared.token.Shape.TheVariants as shape
use Rattle.c_forms.specs.declared.pieces.Sort.{Sort}
use Rattle.c_forms.specs.declared.pieces.Piece.{Piece}
use Rattle.c_forms.specs.declared.pieces.Piece.TheVariants.{Token, Maybe, Own, TypeTokens, KindName, One, Group, Rest, Anything, Then}
use Rattle.c_forms.specs.declared.forms.Form.{Form}
use Rattle.c_forms.specs.declared.forms.Form.TheVariants as form
use Rattle.c_forms.specs.declared.forms.ExpForm.{ExpForm}
use Rattle.c_forms.specs.declared.forms.ExpForm.TheVariants as exp
use Rattle.c_forms.specs.declared.forms.SpecForm.{SpecForm}
use Rattle.c_forms.specs.declared.forms.SpecForm.TheVariants as spec
use Rattle.c_forms.specs.declared.forms.ItemForm.{ItemForm}
use Rattle.c_forms.specs.declared.forms.ItemForm.TheVariants as item
use Rattle.c_forms.specs.declared.forms.MetaExpForm.{MetaExpForm}
use Rattle.c_forms.specs.declared.forms.MetaExpForm.TheVariants as metaexp
use Rattle.c_forms.specs.declared.forms.MetaStmtForm.{MetaStmtForm}
use Rattle.c_forms.specs.declared.forms.MetaStmtForm.TheVariants as metastmt
use Rattle.c_forms.specs.declared.forms.TemplateForm.{TemplateForm}
use Rattle.c_forms.specs.declared.forms.TemplateForm.TheVariants as template
use Rattle.c_forms.specs.declared.forms.ElementForm.{ElementForm}
use Rattle.c_forms.specs.declared.forms.ElementForm.TheVariants as element
use Rattle.c_forms.specs.declared.forms.GroupForm.{GroupForm}
use Rattle.c_forms.specs.declared.forms.GroupForm.TheVariants as group
use Rattle.c_forms.specs.Forests.{Plain}
use Rattle.c_forms.specs.Measures.{is_plain, pieces}
use Rattle.c_forms.specs.Tokens.{held, held_by_exp, held_by_spec, held_by_item, held_by_meta_exp, held_by_template, held_by_meta_stmt, held_by_element, held_by_group}
use Rattle.c_reader.specs.Tokens.{Spot}
use Rattle.c_syntax.specs.Reading.{Before, Usual}
use Rattle.c_syntax.specs.Spells.{Spelling, Matches}
use Rattle.text_tokens.specs.Plain.{is_c}
use Rattle.text_tokens.specs.Written.{IsWrittenIfAny}
use Rattle.written_items.specs.Known.{AreKnown, IsKnownIfAny}

-- pieces that name the form's own token, or that spell nothing in plain C
abbrev tells : List Piece → Bool
tells [] = false
tells (Own ∷ q) = true
tells (TypeTokens ∷ q) = true
tells (KindName ∷ q) = true
tells (p ∷ q) = tells q

-- no word, constant or literal
abbrev is_fixed : Option Shape → Bool
is_fixed None = true
is_fixed (Some (shape.Key k)) = true
is_fixed (Some (shape.Punct p)) = true
is_fixed (Some (shape.Mark m)) = true
is_fixed (Some shape.End) = true
is_fixed _ = false

tells_exp : (f : ExpForm) → (is_fixed (held_by_exp f) || tells (pieces (form.Exp f))) ≡ true
tells_exp (exp.Name w) = refl
tells_exp f = refl

tells_spec : (f : SpecForm) → (is_fixed (held_by_spec f) || tells (pieces (form.Spec f))) ≡ true
tells_spec (spec.Typedef w) = refl
tells_spec f = refl

tells_item : (f : ItemForm) → is_plain (form.Item f) ≡ true → (is_fixed (held_by_item f) || tells (pieces (form.Item f))) ≡ true
tells_item item.Function p = refl
tells_item item.Declaration p = refl
tells_item f p = absurd (cc p)

tells_meta_exp : (f : MetaExpForm) → (is_fixed (held_by_meta_exp f) || tells (pieces (form.MetaExp f))) ≡ true
tells_meta_exp (metaexp.Int w) = refl
tells_meta_exp f = refl

tells_template : (f : TemplateForm) → (is_fixed (held_by_template f) || tells (pieces (form.Template f))) ≡ true
tells_template (template.One k) = refl
tells_template f = refl

tells_meta_stmt : (f : MetaStmtForm) → (is_fixed (held_by_meta_stmt f) || tells (pieces (form.MetaStmt f))) ≡ true
tells_meta_stmt (metastmt.Set w) = refl
tells_meta_stmt f = refl

either : (b : Bool) → (b || true) ≡ true
either true = refl
either false = refl

tells_element : (f : ElementForm) → (is_fixed (held_by_element f) || tells (pieces (form.Element f))) ≡ true
tells_element (element.Literal t) = either (is_fixed (Some t))
tells_element (element.OneOrMoreBetween t) = either (is_fixed (Some t))
tells_element (element.ZeroOrMoreBetween t) = either (is_fixed (Some t))
tells_element (element.Maybe t) = either (is_fixed (Some t))
tells_element f = refl

tells_group : (f : GroupForm) → (is_fixed (held_by_group f) || tells (pieces (form.Group f))) ≡ true
tells_group (group.Assignment w) = refl
tells_group f = refl

tells_form : (f : Form) → is_plain f ≡ true → (is_fixed (held f) || tells (pieces f)) ≡ true
tells_form (form.Exp f) p = tells_exp f
tells_form (form.Spec f) p = tells_spec f
tells_form (form.Item f) p = tells_item f p
tells_form (form.MetaExp f) p = tells_meta_exp f
tells_form (form.Template f) p = tells_template f
tells_form (form.MetaStmt f) p = tells_meta_stmt f
tells_form (form.Element f) p = tells_element f
tells_form (form.Hole f) p = absurd (cc p)
tells_form (form.Group f) p = tells_group f
tells_form f p = refl

module _ (names : List (List ℕ)) where
  fixed_known : (o : Option Shape) → is_fixed o ≡ true → IsKnownIfAny names o
  fixed_known None h = tt
  fixed_known (Some (shape.Key k)) h = tt
  fixed_known (Some (shape.Punct p)) h = tt
  fixed_known (Some (shape.Mark m)) h = tt
  fixed_known (Some shape.End) h = tt
  fixed_known (Some _) h = absurd (cc h)

  module _ (w : List Shape) (A : AreKnown names w) (P : Spelling) where
    told_known : (own : Sort) (f : Form) (before : Before) (ps : List Piece) (ts : List Plain) (i j : Spot) → tells ps ≡ true → Matches P w own f before ps ts i j → IsKnownIfAny names (held f)
    told_known own f before [] ts i j h M = absurd (cc h)
    told_known own f before (Token c ∷ ps) ts i j h M = told_known own f Usual ps ts _ j h M.1
    told_known own f before (Maybe c ∷ ps) ts i j h (inl M) = told_known own f Usual ps ts _ j h M.1
    told_known own f before (Maybe c ∷ ps) ts i j h (inr M) = told_known own f Usual ps ts _ j h M
    told_known own f before (Own ∷ ps) ts i j h M = subst (IsKnownIfAny names) (sym M.0.0) (A i.place)
    told_known own f before (One due least ∷ ps) ts i j h M = told_known own f _ ps M.others M.place j h M.are_others
    told_known own f before (Group r due least ∷ ps) ts i j h M = told_known own f _ ps M.others M.place j h M.are_others
    told_known own f before (Then e ∷ ps) ts i j h M = told_known own f before ps ts _ j h M.1
    told_known own f before (TypeTokens ∷ ps) ts i j h M = absurd M
    told_known own f before (KindName ∷ ps) ts i j h M = absurd M
    told_known own f before (Rest due ∷ ps) ts i j h M = absurd M
    told_known own f before (Anything ∷ ps) ts i j h M = absurd M

    known_if : (own : Sort) (f : Form) (ts : List Plain) (i j : Spot) (b : Bool) → is_fixed (held f) ≡ b → (b || tells (pieces f)) ≡ true → Matches P w own f Usual (pieces f) ts i j → IsKnownIfAny names (held f)
    known_if own f ts i j true e h M = fixed_known (held f) e
    known_if own f ts i j false e h M = told_known own f Usual (pieces f) ts i j h M

    -- what the form of a node that is spelled holds
    pub held_known : (own : Sort) (f : Form) (ts : List Plain) (i j : Spot) → is_plain f ≡ true → Matches P w own f Usual (pieces f) ts i j → IsKnownIfAny names (held f)
    held_known own f ts i j p M = known_if own f ts i j (is_fixed (held f)) refl (tells_form f p) M

-- ---- a form of plain C holds no mark

abbrev is_no_mark : Option Shape → Bool
is_no_mark (Some (shape.Mark m)) = false
is_no_mark (Some shape.End) = false
is_no_mark o = true

no_mark_exp : (f : ExpForm) → is_no_mark (held_by_exp f) ≡ true
no_mark_exp (exp.Name w) = refl
no_mark_exp f = refl

no_mark_spec : (f : SpecForm) → is_no_mark (held_by_spec f) ≡ true
no_mark_spec (spec.Typedef w) = refl
no_mark_spec f = refl

no_mark_item : (f : ItemForm) → is_no_mark (held_by_item f) ≡ true
no_mark_item item.Function = refl
no_mark_item f = refl

no_mark_meta_exp : (f : MetaExpForm) → is_no_mark (held_by_meta_exp f) ≡ true
no_mark_meta_exp (metaexp.Int w) = refl
no_mark_meta_exp f = refl

no_mark_template : (f : TemplateForm) → is_c (form.Template f) ≡ true → is_no_mark (held_by_template f) ≡ true
no_mark_template template.Parens c = absurd (cc c)
no_mark_template f c = absurd (cc c)

no_mark_meta_stmt : (f : MetaStmtForm) → is_no_mark (held_by_meta_stmt f) ≡ true
no_mark_meta_stmt (metastmt.Set w) = refl
no_mark_meta_stmt f = refl

no_mark_group : (f : GroupForm) → is_no_mark (held_by_group f) ≡ true
no_mark_group (group.Assignment w) = refl
no_mark_group f = refl

no_mark : (f : Form) → is_c f ≡ true → is_no_mark (held f) ≡ true
no_mark (form.Exp f) c = no_mark_exp f
no_mark (form.Spec f) c = no_mark_spec f
no_mark (form.Item f) c = no_mark_item f
no_mark (form.MetaExp f) c = no_mark_meta_exp f
no_mark (form.MetaStmt f) c = no_mark_meta_stmt f
no_mark (form.Group f) c = no_mark_group f
no_mark (form.Template f) c = no_mark_template f c
no_mark (form.Element f) c = absurd (cc c)
no_mark (form.Hole f) c = absurd (cc c)
no_mark f c = refl

written_if : (names : List (List ℕ)) (o : Option Shape) → is_no_mark o ≡ true → IsKnownIfAny names o → IsWrittenIfAny names o
written_if names None h k = tt
written_if names (Some (shape.Mark m)) h k = absurd (cc h)
written_if names (Some shape.End) h k = absurd (cc h)
written_if names (Some _) h k = k

-- what is known of a form of plain C is written
pub held_written : (names : List (List ℕ)) (f : Form) → is_c f ≡ true → IsKnownIfAny names (held f) → IsWrittenIfAny names (held f)
held_written names f c k = written_if names (held f) (no_mark f c) k

-- No `else` follows a statement that ends open.
use Rattle.std.proofs.Common.{◌≡◌, refl, ap, sym, ◌∙◌, ℕ, zero, suc, Bool, true, false, ◌&&◌, List}
use Rattle.c_tokens.specs.declared.token.Shape.{Shape}
use Rattle.c_tokens.specs.declared.token.Key.TheVariants as key
use Rattle.c_tokens.specs.declared.class.Class.TheVariants as class
use Rattle.c_forms.specs.declared.pieces.Sort.{Sort}
use Rattle.c_forms.specs.declared.pieces.Sort.TheVariants as s
use Rattle.c_forms.specs.declared.forms.Form.{Form}
use Rattle.c_forms.specs.declared.forms.Form.TheVariants as form
use Rattle.c_forms.specs.declared.forms.GroupForm.TheVariants as group
use Rattle.c_forms.specs.Forests.{Plain, forest, node}
use Rattle.c_forms.specs.Measures.{pieces, ends_as_last_part}
use Rattle.c_forms.specs.Opens.{last_opens, ends_open}
use Rattle.c_forms.specs.Sets.{has, starts}
use Rattle.c_reader.specs.Tokens.{Spot, class_at}
use Rattle.c_syntax.specs.Allowed.{places}
use Rattle.c_syntax.specs.Reading.{Usual, is_starred, spanned}
use Rattle.c_syntax.specs.Spells.{Spelling, Is, Matches, At, InPlace, Spells, nothing_spelled, parts_spelled}
use Rattle.spelled_trees.specs.Told.{Ended}
use Rattle.spelled_trees.proofs.Parts.{left_of, right_of}
use Rattle.spelled_trees.proofs.Suits.{suits}
use Rattle.spelled_trees.proofs.Rows.{right}
use Rattle.spelled_trees.proofs.Statements.{open_stmt, open_else}

abbrev pub Ends : List Shape → Spelling → Type 0
Ends w P = (due : Sort) (least : ℕ) (t : Plain) (i j : Spot) → P due least t i j → Ended w due t i j

by_kind : (w : List Shape) (b : Bool) (deeper inner : Spelling) → Ends w deeper → Ends w inner → Ends w (parts_spelled b deeper inner)
by_kind w true deeper inner D I = D
by_kind w false deeper inner D I = I

module _ (w : List Shape) (P : Spelling) (E : Ends w P) where
  node_stmt : (f : Form) (ts : List Plain) (i j : Spot) → suits s.Stmt f ≡ true → Matches P w s.Stmt f Usual (pieces f) ts i j → (ends_as_last_part f && last_opens (forest ts)) ≡ true → has (starts s.ElsePart) (class_at w j) ≡ false
  node_stmt (form.Stmt g) ts i j h M k = let a = ends_as_last_part (form.Stmt g) in let b = last_opens (forest ts) in
      open_stmt w P s.Stmt g ts i j (E s.Stmt) (E s.ElsePart) M (left_of a b k) (right_of a b k)
  node_stmt f ts i j h M k = absurd (cc h)

  node_else : (f : Form) (ts : List Plain) (i j : Spot) → suits s.ElsePart f ≡ true → Matches P w s.ElsePart f Usual (pieces f) ts i j → Is w (class.Key key.Else) i × ((ends_as_last_part f && last_opens (forest ts)) ≡ true → has (starts s.ElsePart) (class_at w j) ≡ false)
  node_else (form.Group group.ElsePart) ts i j h M = open_else w P s.ElsePart ts i j (E s.Stmt) M
  node_else (form.Group f) ts i j h M = absurd (cc h)
  node_else f ts i j h M = absurd (cc h)

module _ (levels : Type 0) (deeper inner : Spelling) (w : List Shape) (D : Ends w deeper) (I : Ends w inner) where
  opened : (t : Plain) (ts : List Plain) (i j : ℕ) → t ≡ node t.form (spanned i j) ts → ends_open t ≡ (ends_as_last_part t.form && last_opens (forest ts))
  opened t ts i j e = ap (λ (x : Plain). ends_as_last_part t.form && last_opens x.parts) e

  pub ended_at : Ends w (At levels deeper inner w)
  ended_at s.Stmt least t i j N = λ k. node_stmt w (parts_spelled (is_starred t.form) deeper inner) (by_kind w (is_starred t.form) deeper inner D I) t.form N.parts i j (right s.Stmt t.form refl N.may).suits N.matches
      (sym (opened t N.parts i.place j.place N.value) ∙ k)
  ended_at s.ElsePart least t i j N = let R = node_else w (parts_spelled (is_starred t.form) deeper inner) (by_kind w (is_starred t.form) deeper inner D I) t.form N.parts i j (right s.ElsePart t.form refl N.may).suits N.matches in
      (R.0, λ k. R.1 (sym (opened t N.parts i.place j.place N.value) ∙ k))
  ended_at due least t i j A = tt

pub ended_in_place : (n : ℕ) (levels : Type 0) (deeper : Spelling) (w : List Shape) → Ends w deeper → Ends w (InPlace n levels deeper w)
unfolding InPlace
ended_in_place zero levels deeper w D due least t i j P = absurd P
ended_in_place (suc n) levels deeper w D due least t i j P = ended_at levels deeper (InPlace n levels deeper w) w D (ended_in_place n levels deeper w D) due least t i j P

-- what is spelled as a statement and ends open is followed by no `else`
pub spelled_ended : (d : ℕ) (w : List Shape) (due : Sort) (least : ℕ) (t : Plain) (i j : Spot) → Spells d w due least t i j → Ended w due t i j
unfolding Spells
spelled_ended zero w = ended_in_place places ⊥ nothing_spelled w (λ due least t i j P. absurd P)
spelled_ended (suc d) w = ended_in_place places (Unit {0}) (Spells d w) w (spelled_ended d w)

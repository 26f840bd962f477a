-- What is spelled as an item has a token.
use Rattle.std.proofs.Common.{◌≡◌, ◌⊎◌, inl, inr, refl, ap, sym, subst, ◌∙◌, ℕ, zero, suc, ◌<◌, ◌≤◌, Bool, true, false, List, [], ◌∷◌, arith}
use Rattle.c_tokens.specs.declared.token.Shape.{Shape}
use Rattle.c_tokens.specs.declared.token.Shape.TheVariants as shape
use Rattle.c_forms.specs.declared.pieces.Sort.TheVariants as s
use Rattle.c_forms.specs.declared.forms.Form.{Form}
use Rattle.c_forms.specs.declared.forms.Form.TheVariants as form
use Rattle.c_forms.specs.declared.forms.ItemForm.TheVariants as item
use Rattle.c_forms.specs.Forests.{Plain}
use Rattle.c_forms.specs.Measures.{pieces}
use Rattle.c_forms.specs.Sets.{has}
use Rattle.c_tokens.specs.ClassNumbers.{class_number}
use Rattle.c_tokens.specs.ClassOf.{class_of}
use Rattle.c_reader.specs.States.{class}
use Rattle.c_reader.specs.Tokens.{Spot, raw_at}
use Rattle.c_syntax.specs.Allowed.{places}
use Rattle.c_syntax.specs.Reading.{Usual, is_starred}
use Rattle.c_syntax.specs.Spells.{Spelling, IsNode, InPlace, Spells, nothing_spelled, parts_spelled, started_by, has_no_specifiers}
use Rattle.c_spelled.specs.Fitting.{reads, blank, opens}
use Rattle.c_spelled.proofs.Alone.{item_is}
use Rattle.c_spelled.proofs.Begins.{AllBegin, choose_begin, in_place_begins, spells_begin}
use Rattle.c_spelled.proofs.Opens.{starts_so}
use Rattle.c_spelled.proofs.Unique.{one_item}
use Rattle.spelled_scopes.specs.Agreement.{Items}
use Rattle.printed_items.proofs.Sorts.{started_place}

item_reads : (f : Form) → (f ≡ form.Item item.Function) ⊎ (f ≡ form.Item item.Declaration) → reads s.Item (pieces f) ≡ true
item_reads f (inl e) = ap (λ f. reads s.Item (pieces f)) e
item_reads f (inr e) = ap (λ f. reads s.Item (pieces f)) e

item_token : (f : Form) → (f ≡ form.Item item.Function) ⊎ (f ≡ form.Item item.Declaration) → blank s.Item Usual (pieces f) ≡ false
item_token f (inl e) = ap (λ f. blank s.Item Usual (pieces f)) e
item_token f (inr e) = ap (λ f. blank s.Item Usual (pieces f)) e

item_not_end : (f : Form) → (f ≡ form.Item item.Function) ⊎ (f ≡ form.Item item.Declaration) → has (opens s.Item f (pieces f)) (class_number (class_of shape.End)) ≡ false
item_not_end f (inl e) = ap (λ f. has (opens s.Item f (pieces f)) (class_number (class_of shape.End))) e
item_not_end f (inr e) = ap (λ f. has (opens s.Item f (pieces f)) (class_number (class_of shape.End))) e

none_blank : {b : Bool} → b ≡ true → b ≡ false → ⊥
none_blank e f = absurd (cc (e, f))

from_start : (a b c : ℕ) → a ≡ b → a < c → b < c
from_start a b c e h = omega (arith, e, h)

module _ (levels : Type 0) (deeper inner : Spelling) (w : List Shape) (D : AllBegin w deeper) (I : AllBegin w inner) where
  node_steps : (least : ℕ) (t : Plain) (i j : Spot) → IsNode levels deeper inner w s.Item least t i j → i.place < j.place
  node_steps least t i j N = let o = item_is t.form N.may in
      elim (starts_so w (parts_spelled (is_starred t.form) deeper inner) (choose_begin (is_starred t.form) w deeper inner D I) s.Item t.form Usual (pieces t.form) N.parts i j (item_reads t.form o) N.matches) [
        | inl x ↦ x.less
        | inr x ↦ absurd (none_blank x.may (item_token t.form o))
      ]

  node_some : (least : ℕ) (t : Plain) (i j : Spot) → IsNode levels deeper inner w s.Item least t i j → raw_at w i.place ≡ shape.End → ⊥
  node_some least t i j N e = let o = item_is t.form N.may in
      elim (starts_so w (parts_spelled (is_starred t.form) deeper inner) (choose_begin (is_starred t.form) w deeper inner D I) s.Item t.form Usual (pieces t.form) N.parts i j (item_reads t.form o) N.matches) [
        | inl x ↦ none_blank x.isin (ap (λ r. has (opens s.Item t.form (pieces t.form)) (class x.state r)) e ∙ item_not_end t.form o)
        | inr x ↦ none_blank x.may (item_token t.form o)
      ]

in_place_steps : (n : ℕ) (levels : Type 0) (deeper : Spelling) (w : List Shape) → AllBegin w deeper → (least : ℕ) (t : Plain) (i j : Spot) → InPlace n levels deeper w s.Item least t i j → i.place < j.place
unfolding InPlace
in_place_steps zero levels deeper w D least t i j A = absurd A
in_place_steps (suc n) levels deeper w D least t i j A = from_start (started_by (has_no_specifiers t) i).place i.place j.place (started_place (has_no_specifiers t) i) (node_steps levels deeper (InPlace n levels deeper w) w D (in_place_begins n levels deeper w D) least t (started_by (has_no_specifiers t) i) j A)

pub item_steps : (d : ℕ) (w : List Shape) (least : ℕ) (t : Plain) (i j : Spot) → Spells d w s.Item least t i j → i.place < j.place
unfolding Spells
item_steps zero w = in_place_steps places ⊥ nothing_spelled w (λ due least t i j r A. absurd A)
item_steps (suc d) w = in_place_steps places (Unit {0}) (Spells d w) w (spells_begin d w)

in_place_some : (n : ℕ) (levels : Type 0) (deeper : Spelling) (w : List Shape) → AllBegin w deeper → (least : ℕ) (t : Plain) (i j : Spot) → InPlace n levels deeper w s.Item least t i j → raw_at w i.place ≡ shape.End → ⊥
unfolding InPlace
in_place_some zero levels deeper w D least t i j A e = absurd A
in_place_some (suc n) levels deeper w D least t i j A e =
    node_some levels deeper (InPlace n levels deeper w) w D (in_place_begins n levels deeper w D) least t (started_by (has_no_specifiers t) i) j A (ap (raw_at w) (started_place (has_no_specifiers t) i) ∙ e)

-- at the end of the source no item begins
pub item_some : (d : ℕ) (w : List Shape) (least : ℕ) (t : Plain) (i j : Spot) → Spells d w s.Item least t i j → raw_at w i.place ≡ shape.End → ⊥
unfolding Spells
item_some zero w = in_place_some places ⊥ nothing_spelled w (λ due least t i j r A. absurd A)
item_some (suc d) w = in_place_some places (Unit {0}) (Spells d w) w (spells_begin d w)

-- ---- items one after the other

onward : (d : ℕ) (w : List Shape) (ts : List Plain) (i j : Spot) → Items d w ts i j → i.place ≤ j.place
onward d w [] i j e = let h = ap (λ (k : Spot). k.place) e in omega (arith, h)
onward d w (t ∷ ts) i j x = let a = item_steps d w 0 t i x.0 x.1.0 in let b = onward d w ts x.0 j x.1.1 in omega (arith, a, b)

some_step : (d : ℕ) (w : List Shape) (t : Plain) (ts : List Plain) (i j k : Spot) → Items d w (t ∷ ts) i j → i ≡ k → j.place ≡ k.place → ⊥
some_step d w t ts i j k x e f = let a = item_steps d w 0 t i x.0 x.1.0 in let b = onward d w ts x.0 j x.1.1 in let h = ap (λ (k : Spot). k.place) e in omega (arith, a, b, h, f)

-- Tokens spell no other items to the same place.
pub one_list : (d e : ℕ) (w : List Shape) (ts us : List Plain) (i j k : Spot) → Items d w ts i j → Items e w us i k → k.place ≡ j.place → (us ≡ ts) × (k ≡ j)
one_list d e w [] [] i j k x y h = (refl, sym y ∙ x)
one_list d e w [] (u ∷ us) i j k x y h = absurd (some_step e w u us i k j y x h)
one_list d e w (t ∷ ts) [] i j k x y h = absurd (some_step d w t ts i j k x y (sym h))
one_list d e w (t ∷ ts) (u ∷ us) i j k x y h =
    let o = one_item d e w t u i x.0 y.0 x.1.0 y.1.0 in
    let r = one_list d e w ts us x.0 j k x.1.1 (subst (λ m. Items e w us m k) (sym o.1) y.1.1) h in
    (ap (λ v. v ∷ us) (sym o.0) ∙ ap (λ vs. t ∷ vs) r.0, r.1)

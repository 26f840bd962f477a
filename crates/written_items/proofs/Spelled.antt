-- A tree that is spelled by known tokens holds known ones.
use Rattle.std.proofs.Common.{ap, sym, subst, ℕ, zero, suc, Bool, true, false, List, [], ◌∷◌}
use Rattle.c_tokens.specs.declared.span.Span.{Span}
use Rattle.c_tokens.specs.declared.token.Shape.{Shape}
use Rattle.c_forms.specs.declared.pieces.Sort.{Sort}
use Rattle.c_forms.specs.Forests.{Plain, forest, node}
use Rattle.c_forms.specs.Measures.{is_plain, pieces}
use Rattle.c_reader.specs.Tokens.{Spot}
use Rattle.c_syntax.specs.Allowed.{places}
use Rattle.c_syntax.specs.Reading.{Usual, the_list, is_starred}
use Rattle.c_syntax.specs.Spells.{Spelling, IsNode, InPlace, Spells, nothing_spelled, parts_spelled}
use Rattle.spelled_trees.proofs.Parts.{left_of, Each}
use Rattle.spelled_trees.proofs.Ways.{Way, as_node, as_wrapped, as_word, as_literal, way, parts_each}
use Rattle.written_items.specs.Known.{IsKnown, AreKnown, HoldKnown, TreeHoldsKnown}
use Rattle.written_items.proofs.Held.{held_known}

module _ (names : List (List ℕ)) (w : List Shape) (A : AreKnown names w) where
  abbrev Known : Plain → Type 0
  Known t = TreeHoldsKnown names t

  all_known : (ts : List Plain) → Each Known ts → HoldKnown names (forest ts)
  all_known [] E = tt
  all_known (t ∷ ts) E = (E.0.0, (E.0.1, all_known ts E.1))

  known_lists : (s : Span) (ts : List Plain) → Each Known ts → Known (node the_list s ts)
  known_lists s ts E = (tt, all_known ts E)

  abbrev Within : Spelling → Type 0
  Within P = (due : Sort) (least : ℕ) (t : Plain) (i j : Spot) → P due least t i j → Known t

  by_kind : (b : Bool) (deeper inner : Spelling) → Within deeper → Within inner → Within (parts_spelled b deeper inner)
  by_kind true deeper inner D I = D
  by_kind false deeper inner D I = I

  module _ (levels : Type 0) (deeper inner : Spelling) (D : Within deeper) (I : Within inner) where
    known_node : (due : Sort) (least : ℕ) (t : Plain) (i j : Spot) → IsNode levels deeper inner w due least t i j → Known t
    known_node due least t i j N =
        let P : Spelling = parts_spelled (is_starred t.form) deeper inner in (
          held_known names w A P due t.form N.parts i j (left_of (is_plain t.form) _ N.may) N.matches,
          subst (HoldKnown names) (sym (ap (λ (x : Plain). x.parts) N.value)) (all_known N.parts (parts_each w P Known known_lists (by_kind (is_starred t.form) deeper inner D I) due t.form Usual (pieces t.form) N.parts i j N.matches)),
        )

    known_way : (due : Sort) (t : Plain) (i j : Spot) → Way levels deeper inner w due t i j → Known t
    known_way due t i j (as_node own least k m N) = known_node own least t k m N
    known_way due t i j (as_wrapped W) = D _ 1 t _ W.last W.within
    known_way due t i j (as_word U) = subst Known (sym U.1.1) (subst (IsKnown names) U.1.0 (A i.place), tt)
    known_way due t i j (as_literal U) = subst Known (sym U.1.1) (subst (IsKnown names) U.1.0 (A i.place), tt)

  known_in_place : (n : ℕ) (levels : Type 0) (deeper : Spelling) → Within deeper → Within (InPlace n levels deeper w)
  unfolding InPlace
  known_in_place zero levels deeper D due least t i j P = absurd P
  known_in_place (suc n) levels deeper D due least t i j P = known_way levels deeper (InPlace n levels deeper w) D (known_in_place n levels deeper D) due t i j
      (way levels deeper (InPlace n levels deeper w) w due least t i j P)

  pub spelled_known : (d : ℕ) (due : Sort) (least : ℕ) (t : Plain) (i j : Spot) → Spells d w due least t i j → TreeHoldsKnown names t
  unfolding Spells
  spelled_known zero = known_in_place places ⊥ nothing_spelled (λ due least t i j P. absurd P)
  spelled_known (suc d) = known_in_place places (Unit {0}) (Spells d w) (spelled_known d)

-- A tree that is spelled in plain C90 is pure, and not higher than the depth.
use Rattle.std.proofs.Common.{◌≡◌, ◌≤◌, refl, ap, ℕ, zero, suc, ◌+◌, Bool, true, false, List, [], ◌∷◌, nat_eq, arith}
use Rattle.c_tokens.specs.declared.span.Span.{Span}
use Rattle.c_tokens.specs.declared.token.Shape.{Shape}
use Rattle.c_forms.specs.declared.pieces.Sort.{Sort}
use Rattle.c_forms.specs.declared.pieces.Counts.{Counts}
use Rattle.c_forms.specs.declared.pieces.Counts.TheVariants.{Nothing, Size, SizeAndHeight}
use Rattle.c_forms.specs.declared.forms.Form.{Form}
use Rattle.c_forms.specs.Forests.{Plain, forest, node}
use Rattle.c_forms.specs.Rows.{row}
use Rattle.c_forms.specs.Measures.{is_plain, star_of, pieces}
use Rattle.c_reader.specs.Tokens.{Spot}
use Rattle.c_trees.specs.Counts.{pure, pure_tree, high, high_tree}
use Rattle.c_syntax.specs.Allowed.{places}
use Rattle.c_syntax.specs.Reading.{Usual, the_list, is_starred, spanned}
use Rattle.c_syntax.specs.Spells.{Spelling, Matches, IsNode, InPlace, Spells, nothing_spelled, parts_spelled, Levels}
use Rattle.spelled_trees.proofs.Parts.{both, left_of, right_of, Each}
use Rattle.spelled_trees.proofs.Ways.{Way, as_node, as_wrapped, as_word, as_literal, way, parts_each}

-- ---- purity

abbrev Pure : Plain → Type 0
Pure t = pure_tree t ≡ true

all_pure : (ts : List Plain) → Each Pure ts → pure (forest ts) ≡ true
all_pure [] E = refl
all_pure (t ∷ ts) E = rw (left_of (is_plain t.form) (pure t.parts) E.0, right_of (is_plain t.form) (pure t.parts) E.0, all_pure ts E.1) refl

by_kind : (b : Bool) (deeper inner : Spelling) (Q : Plain → Type 0) → ((due : Sort) (least : ℕ) (t : Plain) (i j : Spot) → deeper due least t i j → Q t) → ((due : Sort) (least : ℕ) (t : Plain) (i j : Spot) → inner due least t i j → Q t)
    → (due : Sort) (least : ℕ) (t : Plain) (i j : Spot) → parts_spelled b deeper inner due least t i j → Q t
by_kind true deeper inner Q D I = D
by_kind false deeper inner Q D I = I

parts_of : (w : List Shape) (t : Plain) (ts : List Plain) (i j : ℕ) → t ≡ node t.form (spanned i j) ts → t.parts ≡ forest ts
parts_of w t ts i j e = ap (λ (x : Plain). x.parts) e

pure_lists : (s : Span) (ts : List Plain) → Each Pure ts → Pure (node the_list s ts)
pure_lists s ts E = all_pure ts E

abbrev Within : Spelling → (Plain → Type 0) → Type 0
Within P Q = (due : Sort) (least : ℕ) (t : Plain) (i j : Spot) → P due least t i j → Q t

module _ (levels : Type 0) (deeper inner : Spelling) (w : List Shape) (D : Within deeper Pure) (I : Within inner Pure) where
  pub pure_node : (due : Sort) (least : ℕ) (t : Plain) (i j : Spot) → IsNode levels deeper inner w due least t i j → Pure t
  pure_node due least t i j N = both (is_plain t.form) (pure t.parts) (left_of (is_plain t.form) _ N.may)
      (rw (parts_of w t N.parts i.place j.place N.value) (all_pure N.parts (parts_each w (parts_spelled (is_starred t.form) deeper inner) Pure pure_lists
      (by_kind (is_starred t.form) deeper inner Pure D I) due t.form Usual (pieces t.form) N.parts i j N.matches)))

  pure_way : (due : Sort) (t : Plain) (i j : Spot) → Way levels deeper inner w due t i j → Pure t
  pure_way due t i j (as_node own least k m N) = pure_node own least t k m N
  pure_way due t i j (as_wrapped W) = D _ 1 t _ W.last W.within
  pure_way due t i j (as_word A) = rw (A.1.1) refl
  pure_way due t i j (as_literal A) = rw (A.1.1) refl

pure_in_place : (n : ℕ) (levels : Type 0) (deeper : Spelling) (w : List Shape) → Within deeper Pure → Within (InPlace n levels deeper w) Pure
unfolding InPlace
pure_in_place zero levels deeper w D due least t i j P = absurd P
pure_in_place (suc n) levels deeper w D due least t i j P = pure_way levels deeper (InPlace n levels deeper w) w D (pure_in_place n levels deeper w D) due t i j
    (way levels deeper (InPlace n levels deeper w) w due least t i j P)

-- a tree that is spelled in plain C90 is C alone
pub spelled_pure : (d : ℕ) (w : List Shape) (due : Sort) (least : ℕ) (t : Plain) (i j : Spot) → Spells d w due least t i j → pure_tree t ≡ true
unfolding Spells
spelled_pure zero w = pure_in_place places ⊥ nothing_spelled w (λ due least t i j P. absurd P)
spelled_pure (suc d) w = pure_in_place places (Unit {0}) (Spells d w) w (spelled_pure d w)

-- ---- height

abbrev Low : ℕ → Plain → Type 0
Low n t = high_tree t ≤ n

abbrev one_of : Bool → ℕ
one_of true = 1
one_of false = 0

star_is : (c : Counts) → star_of c ≡ one_of (nat_eq (star_of c) 1)
star_is Nothing = refl
star_is Size = refl
star_is SizeAndHeight = refl

all_low : (n : ℕ) (ts : List Plain) → Each (Low n) ts → high (forest ts) ≤ n
all_low n [] E = omega arith
all_low n (t ∷ ts) E = grind (arith, E.0, all_low n ts E.1)

low_lists : (n : ℕ) (s : Span) (ts : List Plain) → Each (Low n) ts → Low n (node the_list s ts)
low_lists n s ts E = let h = all_low n ts E in omega (arith, h)

module _ (levels : Type 0) (deeper inner : Spelling) (w : List Shape) (d below : ℕ) (L : levels → suc below ≤ d) (D : Within deeper (Low below)) (I : Within inner (Low d)) where
  over : (b : Bool) (due : Sort) (f : Form) (ts : List Plain) (i j : Spot) → Levels b levels → Matches (parts_spelled b deeper inner) w due f Usual (pieces f) ts i j → one_of b + high (forest ts) ≤ d
  over true due f ts i j l M = let h = all_low below ts (parts_each w deeper (Low below) (low_lists below) D due f Usual (pieces f) ts i j M) in omega (arith, h, L l)
  over false due f ts i j l M = let h = all_low d ts (parts_each w inner (Low d) (low_lists d) I due f Usual (pieces f) ts i j M) in omega (arith, h)

  pub low_node : (due : Sort) (least : ℕ) (t : Plain) (i j : Spot) → IsNode levels deeper inner w due least t i j → Low d t
  low_node due least t i j N = rw (parts_of w t N.parts i.place j.place N.value, star_is ((row t.form).counts)) (over (is_starred t.form) due t.form N.parts i j N.left N.matches)

  low_way : (due : Sort) (t : Plain) (i j : Spot) → Way levels deeper inner w due t i j → Low d t
  low_way due t i j (as_node own least k m N) = low_node own least t k m N
  low_way due t i j (as_wrapped W) = let h = D _ 1 t _ W.last W.within in omega (arith, h, L W.left)
  low_way due t i j (as_word A) = rw (A.1.1) (omega arith)
  low_way due t i j (as_literal A) = rw (A.1.1) (omega arith)

low_in_place : (n : ℕ) (levels : Type 0) (deeper : Spelling) (w : List Shape) (d below : ℕ) → (levels → suc below ≤ d) → Within deeper (Low below) → Within (InPlace n levels deeper w) (Low d)
unfolding InPlace
low_in_place zero levels deeper w d below L D due least t i j P = absurd P
low_in_place (suc n) levels deeper w d below L D due least t i j P = low_way levels deeper (InPlace n levels deeper w) w d below L D (low_in_place n levels deeper w d below L D) due t i j
    (way levels deeper (InPlace n levels deeper w) w due least t i j P)

-- a tree that is spelled with a depth of at most d is no higher
pub spelled_low : (d : ℕ) (w : List Shape) (due : Sort) (least : ℕ) (t : Plain) (i j : Spot) → Spells d w due least t i j → high_tree t ≤ d
unfolding Spells
spelled_low zero w = low_in_place places ⊥ nothing_spelled w 0 0 (λ l. absurd l) (λ due least t i j P. absurd P)
spelled_low (suc d) w = low_in_place places (Unit {0}) (Spells d w) w (suc d) d (λ l. omega arith) (spelled_low d w)

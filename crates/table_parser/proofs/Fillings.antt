-- The parts of pieces, piece by piece.
use Rattle.std.proofs.Common.{◌≡◌, refl, ap, ◌∙◌, ℕ, zero, suc, ◌+◌, ◌<◌, ◌≤◌, List, [], ◌∷◌, length, drop, slice_index_or, Ok, Err, arith}
use Rattle.std.proofs.Math.Seq.{drop-cons, drop-nil}
use Rattle.c_forms.specs.declared.pieces.Sort.{Sort}
use Rattle.c_forms.specs.declared.pieces.Piece.{Piece}
use Rattle.c_forms.specs.declared.forms.Form.{Form}
use Rattle.c_reader.specs.declared.refusal.Refusal.{Refusal}
use Rattle.c_reader.specs.Readers.{Input, and_then}
use Rattle.c_syntax.specs.Reading.{Parts}
use Rattle.table_parser.specs.Filled.{Filling, filled, with_piece, parts_after}
use Rattle.table_parser.specs.Nests.{read}

module _ (d : ℕ) (part : Parts) (own : Sort) (f : Form) where
  step : (p : Piece) (ps : List Piece) (g h : Filling) (i j : Input) → read d (with_piece part own f p g) i ≡ Ok (h, j) → read d (filled part own f (p ∷ ps) g) i ≡ read d (filled part own f ps h) j
  unfolding filled
  step p ps g h i j e = ap (λ o. and_then o (λ h j. read d (filled part own f ps h) j)) e

  stop : (p : Piece) (ps : List Piece) (g : Filling) (i : Input) (x : Refusal) → read d (with_piece part own f p g) i ≡ Err x → read d (filled part own f (p ∷ ps) g) i ≡ Err x
  unfolding filled
  stop p ps g i x e = ap (λ o. and_then o (λ h j. read d (filled part own f ps h) j)) e

  over_all : (k : ℕ) (ps : List Piece) → length ps ≤ k → drop k ps ≡ []
  over_all k [] h = drop-nil k
  over_all zero (p ∷ ps) h = absurd (omega (arith, h))
  over_all (suc k) (p ∷ ps) h = over_all k ps (omega (arith, h))

  pub filling_begin : (ps : List Piece) (g : Filling) (i : Input) → read d (filled part own f ps g) i ≡ parts_after d part own f ps g i
  unfolding parts_after
  filling_begin ps g i = refl

  pub filling_on : (ps : List Piece) (k : ℕ) (p : Piece) (g h : Filling) (i j : Input) → k < length ps → read d (with_piece part own f (slice_index_or ps k p) g) i ≡ Ok (h, j)
      → parts_after d part own f (drop k ps) g i ≡ parts_after d part own f (drop (k + 1) ps) h j
  unfolding parts_after
  filling_on ps k p g h i j less e = let next : suc k ≡ k + 1 = omega arith in
      ap (λ qs. read d (filled part own f qs g) i) (drop-cons ps k p less) ∙ step (slice_index_or ps k p) (drop (suc k) ps) g h i j e ∙ ap (λ n. read d (filled part own f (drop n ps) h) j) next

  pub filling_broken : (ps : List Piece) (k : ℕ) (p : Piece) (g : Filling) (i : Input) (x : Refusal) → k < length ps → read d (with_piece part own f (slice_index_or ps k p) g) i ≡ Err x
      → parts_after d part own f (drop k ps) g i ≡ Err x
  unfolding parts_after
  filling_broken ps k p g i x less e = ap (λ qs. read d (filled part own f qs g) i) (drop-cons ps k p less) ∙ stop (slice_index_or ps k p) (drop (suc k) ps) g i x e

  pub filling_over : (ps : List Piece) (k : ℕ) (g : Filling) (i : Input) → length ps ≤ k → parts_after d part own f (drop k ps) g i ≡ Ok (g.done, i)
  unfolding parts_after filled
  filling_over ps k g i h = ap (λ qs. read d (filled part own f qs g) i) (over_all k ps h)

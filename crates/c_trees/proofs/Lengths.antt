-- Lists of different lengths are not the same.
use Rattle.std.proofs.Common.{◌≡◌, Bool, true, false, ◌&&◌, List, [], ◌∷◌, refl, ap, suc, length}
use Rattle.c_forms.specs.Forests.{Plain, forest}
use Rattle.c_trees.specs.Same.{same, same_tree}

and_false : (a b : Bool) → b ≡ false → (a && b) ≡ false
and_false true b h = h
and_false false b h = refl

pub same_lengths : (xs ys : List Plain) → ¬ (length xs ≡ length ys) → same (forest xs) (forest ys) ≡ false
same_lengths [] [] h = absurd (h refl)
same_lengths [] (y ∷ ys) h = refl
same_lengths (x ∷ xs) [] h = refl
same_lengths (x ∷ xs) (y ∷ ys) h = and_false (same_tree x y) (same (forest xs) (forest ys)) (same_lengths xs ys (λ e. h (ap suc e)))

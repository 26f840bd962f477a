-- The last of trees side by side.
use Rattle.std.proofs.Common.{◌≡◌, ◌≤◌, List, [], ◌∷◌, ◌++◌, refl, arith}
use Rattle.c_forms.specs.Forests.{Plain, forest}
use Rattle.c_trees.specs.Deep.{deep, deep_tree}
use Rattle.c_forms.specs.Opens.{last_opens, ends_open}

pub last_one : (ts : List Plain) (t : Plain) → last_opens (forest (ts ++ t ∷ [])) ≡ ends_open t
last_one [] t = refl
last_one (x ∷ []) t = refl
last_one (x ∷ (y ∷ ys)) t = last_one (y ∷ ys) t

pub last_deep : (ts : List Plain) (t : Plain) → deep_tree t ≤ deep (forest (ts ++ t ∷ []))
last_deep [] t = omega arith
last_deep (x ∷ xs) t = omega (arith, last_deep xs t)

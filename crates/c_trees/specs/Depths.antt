-- How deep the trees of a list are.
use Rattle.std.proofs.Common.{◌≡◌, max, List, [], ◌∷◌, refl, ap}
use denote.Param.Weighed.{most}
use Rattle.c_forms.specs.Forests.{Plain, forest}
use Rattle.c_trees.specs.Deep.{deep, deep_tree}

pub most_deep : (ts : List Plain) → most deep_tree ts ≡ deep (forest ts)
most_deep [] = refl
most_deep (t ∷ ts) = ap (λ n. max (deep_tree t) n) (most_deep ts)

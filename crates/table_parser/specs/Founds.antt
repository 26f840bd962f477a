-- Lists of trees.
use Rattle.std.specs.Prelude.{Bool, true, false, List, [], ◌∷◌}
use Rattle.c_forms.specs.Forests.{Plain}

abbrev pub is_none : List Plain → Bool
is_none [] = true
is_none (t ∷ ts) = false

-- How many nodes a tree has, how high it is, and whether it is C alone.
use Rattle.std.specs.Prelude.{ℕ, ◌+◌, ◌-◌, ◌^◌, min, max, Bool, true, ◌&&◌}
use Rattle.c_forms.specs.Forests.{Plain, Forest, empty, tree}
use Rattle.c_forms.specs.Measures.{weight, star, is_plain}

-- the number itself, or 2^64 - 1 where it is larger
abbrev pub capped : ℕ → ℕ
capped n = min n (2 ^ 64 - 1)

abbrev pub count : Forest → ℕ
count empty = 0
count (tree f s ps rest) = weight f + count ps + count rest

abbrev pub high : Forest → ℕ
high empty = 0
high (tree f s ps rest) = max (star f + high ps) (high rest)

abbrev pub pure : Forest → Bool
pure empty = true
pure (tree f s ps rest) = is_plain f && pure ps && pure rest

abbrev pub count_tree : Plain → ℕ
count_tree t = weight t.form + count t.parts

abbrev pub high_tree : Plain → ℕ
high_tree t = star t.form + high t.parts

abbrev pub pure_tree : Plain → Bool
pure_tree t = is_plain t.form && pure t.parts

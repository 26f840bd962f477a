-- How deep trees are: the number of nodes on the longest way down.
use Rattle.std.specs.Prelude.{ℕ, ◌+◌, ◌*◌, max, List}
use Rattle.c_forms.specs.Forests.{Plain, Forest, empty, tree, forest}

abbrev pub deep : Forest → ℕ
deep empty = 0
deep (tree f s ps rest) = max (deep ps + 1) (deep rest)

abbrev pub deep_tree : Plain → ℕ
deep_tree t = deep t.parts + 1

-- trees and lists of trees by turns: each is deeper than what it holds
abbrev pub deep_whole : Plain → ℕ
deep_whole t = 2 * deep_tree t

abbrev pub deep_parts : List Plain → ℕ
deep_parts ts = 2 * deep (forest ts) + 1

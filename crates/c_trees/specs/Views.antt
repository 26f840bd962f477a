-- A node as a tree, and what it keeps.
use Rattle.std.specs.Prelude.{◌≡◌, ◌≤◌, [], true}
use Rattle.c_trees.specs.declared.tree.Node.{Node}
use Rattle.c_trees.specs.declared.tree.Held.{Held}
use Rattle.c_trees.specs.declared.tree.Held.TheVariants as held
use Rattle.c_forms.specs.Forests.{Plain, node}
use Rattle.c_trees.specs.Counts.{capped, count_tree, high_tree, pure_tree}
use Rattle.c_trees.specs.Valid.{valid_tree}

abbrev pub node_plain : Node → Plain
node_plain n = node n.form n.span n.parts

abbrev pub plain : Held → Plain
plain (held.Leaf f s) = node f s []
plain (held.Branch b) = node_plain b.value

pub record NodeKeeps (n : Node) : Type 0 where
  pub size : n.size ≡ capped (count_tree (node_plain n))
  pub height : n.height ≡ high_tree (node_plain n)
  pub low : n.height ≤ 1000
  pub pure : n.is_pure ≡ pure_tree (node_plain n)
  pub valid : valid_tree (node_plain n) ≡ true

-- a leaf keeps nothing: its form says all
pub record LeafKeeps (t : Plain) : Type 0 where
  pub low : high_tree t ≤ 1000
  pub valid : valid_tree t ≡ true

abbrev pub Keeps : Held → Type 0
Keeps (held.Leaf f s) = LeafKeeps (node f s [])
Keeps (held.Branch b) = NodeKeeps b.value

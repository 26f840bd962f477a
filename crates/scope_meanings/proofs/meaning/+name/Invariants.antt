use Rattle.std.proofs.Common.{◌≡◌, ◌+◌, ◌*◌, drop}
use denote.Param.Weighed.{most}
use Rattle.c_forms.specs.Forests.{forest}
use Rattle.c_trees.specs.Deep.{deep_tree}
use Rattle.scope_meanings.specs.Meanings.{name_in}
use Rattle.scope_meanings.proofs.meaning.+name.Given as goal

abbrev pub invariant-name_in-loop-tree : goal.invariant-name_in-loop-tree
invariant-name_in-loop-tree l = name_in (forest (drop l.tree-index l.trees)) ≡ name_in (forest l.trees)

abbrev pub decreases-name_at : goal.decreases-name_at
decreases-name_at l = 2 * deep_tree l.tree.now

abbrev pub decreases-name_in : goal.decreases-name_in
decreases-name_in l = 2 * most deep_tree l.trees.now + 1

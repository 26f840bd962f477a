use Rattle.std.proofs.Common.{◌+◌, ◌*◌, drop}
use denote.Param.Weighed.{most}
use Rattle.c_forms.specs.Forests.{forest}
use Rattle.c_trees.specs.Deep.{deep_tree}
use Rattle.scopes.specs.Events.{words}
use Rattle.scopes.specs.Steps.{IsUnderWay}
use Rattle.scopes.proofs.params.+redeclare.Given as goal

abbrev pub invariant-redeclare-loop-tree : goal.invariant-redeclare-loop-tree
invariant-redeclare-loop-tree l = IsUnderWay l.initial.table l.table (words l.used (forest l.trees)) (words l.used (forest (drop l.tree-index l.trees)))

abbrev pub decreases-redeclare_one : goal.decreases-redeclare_one
decreases-redeclare_one l = 2 * deep_tree l.tree.now

abbrev pub decreases-redeclare : goal.decreases-redeclare
decreases-redeclare l = 2 * most deep_tree l.trees.now + 1

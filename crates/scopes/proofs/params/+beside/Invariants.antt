use Rattle.std.proofs.Common.{◌+◌, ◌*◌, drop}
use denote.Param.Weighed.{most}
use Rattle.c_forms.specs.Forests.{forest}
use Rattle.c_trees.specs.Deep.{deep_tree}
use Rattle.scopes.specs.Events.{beside_name}
use Rattle.scopes.specs.Steps.{IsUnderWay}
use Rattle.scopes.proofs.params.+beside.Given as goal

abbrev pub invariant-redeclare_beside-loop-tree : goal.invariant-redeclare_beside-loop-tree
invariant-redeclare_beside-loop-tree l = IsUnderWay l.initial.table l.table (beside_name (forest l.trees)) (beside_name (forest (drop l.tree-index l.trees)))

abbrev pub decreases-redeclare_in_declarator : goal.decreases-redeclare_in_declarator
decreases-redeclare_in_declarator l = 2 * deep_tree l.tree.now

abbrev pub decreases-redeclare_beside : goal.decreases-redeclare_beside
decreases-redeclare_beside l = 2 * most deep_tree l.trees.now + 1

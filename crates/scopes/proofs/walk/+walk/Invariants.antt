use Rattle.std.proofs.Common.{◌+◌, ◌*◌, drop}
use denote.Param.Weighed.{most}
use Rattle.c_forms.specs.Forests.{forest}
use Rattle.c_trees.specs.Deep.{deep_tree}
use Rattle.scopes.specs.Events.{in_order, each}
use Rattle.scopes.specs.Steps.{IsUnderWay}
use Rattle.scopes.proofs.walk.+walk.Given as goal

abbrev pub invariant-walk_all-loop-tree : goal.invariant-walk_all-loop-tree
invariant-walk_all-loop-tree l = IsUnderWay l.initial.table l.table (in_order (each l.used (forest l.trees))) (in_order (each l.used (forest (drop l.tree-index l.trees))))

abbrev pub decreases-walk : goal.decreases-walk
decreases-walk l = 4 * deep_tree l.tree.now

abbrev pub decreases-walk_all : goal.decreases-walk_all
decreases-walk_all l = 4 * most deep_tree l.trees.now + 1

abbrev pub decreases-walk_scope : goal.decreases-walk_scope
decreases-walk_scope l = 4 * most deep_tree l.parts.now + 2

abbrev pub decreases-walk_function : goal.decreases-walk_function
decreases-walk_function l = 4 * most deep_tree l.parts.now + 3

abbrev pub decreases-walk_body : goal.decreases-walk_body
decreases-walk_body l = 4 * most deep_tree l.others.now + 2

use Rattle.std.proofs.Common.{◌≡◌, ◌+◌, ◌*◌, drop}
use denote.Param.Weighed.{most}
use Rattle.c_forms.specs.Forests.{forest}
use Rattle.c_forms.specs.Rules.{has_function}
use Rattle.c_trees.specs.Deep.{deep_tree}
use Rattle.checked_trees.proofs.rules.+functions.Given as goal

abbrev pub invariant-has_function-loop-one : goal.invariant-has_function-loop-one
invariant-has_function-loop-one l = has_function (forest (drop l.one-index l.all)) ≡ has_function (forest l.all)

abbrev pub decreases-is_function : goal.decreases-is_function
decreases-is_function l = 2 * deep_tree l.tree.now

abbrev pub decreases-has_function : goal.decreases-has_function
decreases-has_function l = 2 * most deep_tree l.all.now + 1

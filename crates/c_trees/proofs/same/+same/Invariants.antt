use Rattle.std.proofs.Common.{◌≡◌, ◌+◌, ◌*◌, drop}
use denote.Param.Weighed.{most}
use Rattle.c_forms.specs.Forests.{forest}
use Rattle.c_trees.specs.Deep.{deep_tree}
use Rattle.c_trees.specs.Same.{same}
use Rattle.c_trees.proofs.same.+same.Given as goal

abbrev pub invariant-are_same-loop-at : goal.invariant-are_same-loop-at
invariant-are_same-loop-at l = same (forest (drop l.at l.all)) (forest (drop l.at l.others)) ≡ same (forest l.all) (forest l.others)

abbrev pub decreases-is_same : goal.decreases-is_same
decreases-is_same l = 2 * deep_tree l.one.now

abbrev pub decreases-are_same : goal.decreases-are_same
decreases-are_same l = 2 * most deep_tree l.all.now + 1

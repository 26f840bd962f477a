use Rattle.std.proofs.Common.{◌≡◌, ◌+◌, ◌*◌, drop}
use denote.Param.Weighed.{most}
use Rattle.c_forms.specs.Forests.{forest}
use Rattle.c_forms.specs.Rules.{names}
use Rattle.c_trees.specs.Deep.{deep_tree}
use Rattle.checked_trees.proofs.rules.+names.Given as goal

abbrev pub invariant-names-loop-one : goal.invariant-names-loop-one
invariant-names-loop-one l = names (forest (drop l.one-index l.all)) ≡ names (forest l.all)

abbrev pub decreases-is_named : goal.decreases-is_named
decreases-is_named l = 2 * deep_tree l.tree.now

abbrev pub decreases-names : goal.decreases-names
decreases-names l = 2 * most deep_tree l.all.now + 1

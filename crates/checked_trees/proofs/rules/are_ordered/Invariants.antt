use Rattle.std.proofs.Common.{◌≡◌, drop, false}
use Rattle.c_forms.specs.Forests.{forest}
use Rattle.c_forms.specs.Rules.{ordered}
use Rattle.checked_trees.proofs.rules.are_ordered.Given as goal

abbrev pub invariant-loop-one : goal.invariant-loop-one
invariant-loop-one l = ordered l.late (forest (drop l.one-index l.all)) ≡ ordered false (forest l.all)

use Rattle.std.proofs.Common.{◌≡◌, drop}
use Rattle.c_forms.specs.Forests.{forest}
use Rattle.c_forms.specs.Rules.{has_ids}
use Rattle.checked_trees.proofs.rules.has_ids.Given as goal

abbrev pub invariant-loop-one : goal.invariant-loop-one
invariant-loop-one l = has_ids (forest (drop l.one-index l.all)) ≡ has_ids (forest l.all)

use Rattle.std.proofs.Common.{◌≡◌}
use Rattle.pattern_language.specs.Patterns.{pattern_of}
use Rattle.c_forms.specs.Forests.{forest}
use Rattle.checked_trees.specs.Bindings.{bound_below}
use Rattle.checked_trees.proofs.binders.bindings.Given as goal

abbrev pub invariant-loop-number : goal.invariant-loop-number
invariant-loop-number l = l.all ≡ bound_below (pattern_of l.pattern) l.number (forest l.parts)

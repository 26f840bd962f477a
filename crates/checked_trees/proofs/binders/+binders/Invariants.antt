use Rattle.std.proofs.Common.{◌≡◌, ◌+◌, drop}
use Rattle.pattern_language.specs.Patterns.{pattern_of}
use Rattle.checked_trees.specs.Bindings.{binders}
use Rattle.checked_trees.proofs.binders.+binders.Given as goal

abbrev pub invariant-loop-element : goal.invariant-loop-element
invariant-loop-element l = l.count + binders (pattern_of (drop l.element-index l.pattern)) ≡ binders (pattern_of l.pattern)

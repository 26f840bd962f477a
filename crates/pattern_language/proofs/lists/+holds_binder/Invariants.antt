use Rattle.std.proofs.Common.{◌≡◌, drop}
use Rattle.pattern_language.specs.Patterns.{pattern_of, holds_binder}
use Rattle.pattern_language.proofs.lists.+holds_binder.Given as goal

abbrev pub invariant-loop-element : goal.invariant-loop-element
invariant-loop-element l = holds_binder (pattern_of (drop l.element-index l.pattern)) ≡ holds_binder (pattern_of l.pattern)

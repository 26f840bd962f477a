use Rattle.std.proofs.Common.{◌≡◌, drop}
use Rattle.pattern_language.specs.Patterns.{pattern_of, can_be_empty}
use Rattle.pattern_language.proofs.lists.can_be_empty.Given as goal

abbrev pub invariant-loop-element : goal.invariant-loop-element
invariant-loop-element l = can_be_empty (pattern_of (drop l.element-index l.pattern)) ≡ can_be_empty (pattern_of l.pattern)

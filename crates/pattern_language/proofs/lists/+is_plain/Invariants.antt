use Rattle.std.proofs.Common.{◌≡◌, drop}
use Rattle.pattern_language.specs.Patterns.{pattern_of, is_plain}
use Rattle.pattern_language.proofs.lists.+is_plain.Given as goal

abbrev pub invariant-loop-element : goal.invariant-loop-element
invariant-loop-element l = is_plain (pattern_of (drop l.element-index l.pattern)) ≡ is_plain (pattern_of l.pattern)

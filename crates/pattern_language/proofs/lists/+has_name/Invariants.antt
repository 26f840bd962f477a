use Rattle.std.proofs.Common.{◌≡◌, drop}
use Rattle.pattern_language.specs.Patterns.{pattern_of, names, is_among}
use Rattle.pattern_language.proofs.lists.+has_name.Given as goal

abbrev pub invariant-loop-element : goal.invariant-loop-element
invariant-loop-element l = is_among (names (pattern_of (drop l.element-index l.pattern))) l.wanted ≡ is_among (names (pattern_of l.pattern)) l.wanted

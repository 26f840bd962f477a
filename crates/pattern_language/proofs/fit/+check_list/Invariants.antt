use Rattle.pattern_language.specs.Patterns.{pattern_of}
use Rattle.pattern_language.specs.Rules.{sites}
use Rattle.pattern_language.specs.Contexts.{place_of}
use Rattle.pattern_language.proofs.Passing.{Passed, left}
use Rattle.pattern_language.proofs.fit.+check_list.Given as goal

abbrev pub invariant-loop-at : goal.invariant-loop-at
invariant-loop-at l = Passed l.result_type (sites (pattern_of l.elements) (place_of l.context)) (left l.elements l.at (place_of l.context)) l.first l.number

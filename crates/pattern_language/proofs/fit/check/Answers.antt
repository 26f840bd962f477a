use Rattle.std.proofs.Common.{rules}
use Rattle.pattern_language.specs.Patterns.{pattern_of}
use Rattle.pattern_language.specs.Rules.{sites, start, Fails}
use Rattle.pattern_language.proofs.Before.{before_nothing}
use Rattle.pattern_language.proofs.Insides.{same_classes}
use Rattle.pattern_language.proofs.Starts.{place_starts, fails_from}
use Rattle.pattern_language.proofs.fit.check.Goals as goal

pub returns-in_err-check_list-clause-fault : goal.returns-in_err-check_list-clause-fault
returns-in_err-check_list-clause-fault c =
    let fails : Fails c.args.result_type (sites (pattern_of c.args.pattern) start) 0 c.in_err-check_list.field-0.0.element c.in_err-check_list.field-0.0.rule =
    fails_from c.args.result_type _ c.args.pattern _ _ _ c.items.ensures (place_starts _ _ before_nothing (same_classes _ _ c.empty.ensures)) c.in_err-check_list.ensures.fault in
    search rules

use Rattle.std.proofs.Common.{rules, ◌+◌, ◌-◌, length, arith, sym, ◌∙◌, ap, drop, take}
use Rattle.std.proofs.lemmas.List.{take_rest}
use Rattle.pattern_language.specs.Patterns.{pattern_of}
use Rattle.pattern_language.specs.Rules.{Place, sites}
use Rattle.pattern_language.specs.Contexts.{place_of}
use Rattle.pattern_language.specs.Rules.{Fails}
use Rattle.pattern_language.proofs.Before.{before_elements}
use Rattle.pattern_language.proofs.Passing.{list_starts, list_ends, place_at, at_element, inner, left}
use Rattle.pattern_language.proofs.Turns.{breaks_here, keeps_here, after_literal, after_binder, after_inner, in_inner, sites_of_repetition, sites_of_option, few_repetition, few_option}
use Rattle.pattern_language.proofs.fit.+check_list.Goals.{in-Literal, in-Bind, in-Repeat+in_ok-number-in-Repeat, in-Maybe+in_ok-number-in-Maybe}
use Rattle.pattern_language.proofs.fit.+check_list.Goals as goal

pub loop-at-init : goal.loop-at-init
loop-at-init t c = list_starts c.args.result_type c.args.elements.now (place_of c.args.context.now) c.args.first c.ranges.first.fits

pub returns-in-Some-clause-fault : goal.returns-in-Some-clause-fault
returns-in-Some-clause-fault t c =
    breaks_here c.args.result_type _ c.args.elements.now c.loop-at.at (place_of c.args.context.now) c.index-elements-at.result
    (take (length c.args.elements.now - (c.loop-at.at + 1)) (drop (c.loop-at.at + 1) c.args.elements.now)) _ c.args.first c.loop-at.number c.in-Some.rule c.broken_rule.result
    (record {
      within = c.loop-at-test.true;
      is = c.index-elements-at.is;
      others = take_rest c.args.elements.now (c.loop-at.at + 1);
      place = ap (λ e. let q : Place = record (place_of c.args.context.now) { earlier = e } in q) (before_elements _ _);
    })
    (omega arith) c.loop-at.invariant c.in-Some.is c.broken_rule.ensures

pub returns-clause-ok : goal.returns-clause-ok
returns-clause-ok t c = list_ends c.args.result_type _ c.args.elements.now c.loop-at.at (place_of c.args.context.now) c.args.first c.loop-at.number c.loop-at-test.false c.loop-at.invariant

pub in_repetition-inside-requires : goal.in_repetition-inside-requires
in_repetition-inside-requires t c =
    few_repetition c.args.result_type c.index-elements-at.result _ _ c.broken_rule.result c.in-Repeat.least c.in-Repeat.sep c.in-Repeat.body c.in-Repeat.span c.in-Repeat.is c.in_default.is c.broken_rule.ensures

pub in_option-inside-requires : goal.in_option-inside-requires
in_option-inside-requires t c =
    few_option c.args.result_type c.index-elements-at.result _ _ c.broken_rule.result c.in-Maybe.intro c.in-Maybe.body c.in-Maybe.span c.in-Maybe.is c.in_default.is c.broken_rule.ensures

pub returns-in_err-number-in-Repeat-clause-fault : goal.returns-in_err-number-in-Repeat-clause-fault
returns-in_err-number-in-Repeat-clause-fault t c =
    let kept = keeps_here c.args.result_type (sites (pattern_of c.args.elements.now) (place_of c.args.context.now)) c.args.elements.now c.loop-at.at (place_of c.args.context.now) c.index-elements-at.result
    (take (length c.args.elements.now - (c.loop-at.at + 1)) (drop (c.loop-at.at + 1) c.args.elements.now)) _ c.args.first c.loop-at.number c.saturating_add-number.result c.broken_rule.result
    (record {
      within = c.loop-at-test.true;
      is = c.index-elements-at.is;
      others = take_rest c.args.elements.now (c.loop-at.at + 1);
      place = ap (λ e. let q : Place = record (place_of c.args.context.now) { earlier = e } in q) (before_elements _ _);
    })
    c.loop-at.invariant c.in_default.is c.broken_rule.ensures c.saturating_add-number.ensures in
    let same = sites_of_repetition c.args.elements.now c.loop-at.at (place_of c.args.context.now) c.index-elements-at.result (take (length c.args.elements.now - (c.loop-at.at + 1)) (drop (c.loop-at.at + 1) c.args.elements.now)) _ c.in-Repeat.least c.in-Repeat.sep c.in-Repeat.body c.as_slice.result.now c.as_slice-in-Repeat.result.now c.in-Repeat.span (place_of c.in_repetition-inside.result)
    (record {
      within = c.loop-at-test.true;
      is = c.index-elements-at.is;
      others = take_rest c.args.elements.now (c.loop-at.at + 1);
      place = ap (λ e. let q : Place = record (place_of c.args.context.now) { earlier = e } in q) (before_elements _ _);
    })
    c.in-Repeat.is c.as_slice.ensures c.as_slice-in-Repeat.ensures c.in_repetition-inside.ensures in
    let fails : Fails c.args.result_type (sites (pattern_of c.args.elements.now) (place_of c.args.context.now)) c.args.first c.in_err-number-in-Repeat.field-0.0.element c.in_err-number-in-Repeat.field-0.0.rule =
    in_inner c.args.result_type (sites (pattern_of c.args.elements.now) (place_of c.args.context.now)) (inner (at_element c.args.elements.now c.loop-at.at c.index-elements-at.result) (place_at c.args.elements.now c.loop-at.at (place_of c.args.context.now))) (sites (pattern_of c.as_slice-in-Repeat.result.now) (place_of c.in_repetition-inside.result)) (left c.args.elements.now (c.loop-at.at + 1) (place_of c.args.context.now)) c.args.first c.saturating_add-number.result _ _ same kept c.in_err-number-in-Repeat.ensures.fault in
    search rules

pub returns-in_err-number-in-Maybe-clause-fault : goal.returns-in_err-number-in-Maybe-clause-fault
returns-in_err-number-in-Maybe-clause-fault t c =
    let kept = keeps_here c.args.result_type (sites (pattern_of c.args.elements.now) (place_of c.args.context.now)) c.args.elements.now c.loop-at.at (place_of c.args.context.now) c.index-elements-at.result
    (take (length c.args.elements.now - (c.loop-at.at + 1)) (drop (c.loop-at.at + 1) c.args.elements.now)) _ c.args.first c.loop-at.number c.saturating_add-number.result c.broken_rule.result
    (record {
      within = c.loop-at-test.true;
      is = c.index-elements-at.is;
      others = take_rest c.args.elements.now (c.loop-at.at + 1);
      place = ap (λ e. let q : Place = record (place_of c.args.context.now) { earlier = e } in q) (before_elements _ _);
    })
    c.loop-at.invariant c.in_default.is c.broken_rule.ensures c.saturating_add-number.ensures in
    let same = sites_of_option c.args.elements.now c.loop-at.at (place_of c.args.context.now) c.index-elements-at.result (take (length c.args.elements.now - (c.loop-at.at + 1)) (drop (c.loop-at.at + 1) c.args.elements.now)) _ c.in-Maybe.intro c.in-Maybe.body c.as_slice-in-Maybe.result.now c.in-Maybe.span (place_of c.in_option-inside.result)
    (record {
      within = c.loop-at-test.true;
      is = c.index-elements-at.is;
      others = take_rest c.args.elements.now (c.loop-at.at + 1);
      place = ap (λ e. let q : Place = record (place_of c.args.context.now) { earlier = e } in q) (before_elements _ _);
    })
    c.in-Maybe.is c.as_slice-in-Maybe.ensures c.in_option-inside.ensures in
    let fails : Fails c.args.result_type (sites (pattern_of c.args.elements.now) (place_of c.args.context.now)) c.args.first c.in_err-number-in-Maybe.field-0.0.element c.in_err-number-in-Maybe.field-0.0.rule =
    in_inner c.args.result_type (sites (pattern_of c.args.elements.now) (place_of c.args.context.now)) (inner (at_element c.args.elements.now c.loop-at.at c.index-elements-at.result) (place_at c.args.elements.now c.loop-at.at (place_of c.args.context.now))) (sites (pattern_of c.as_slice-in-Maybe.result.now) (place_of c.in_option-inside.result)) (left c.args.elements.now (c.loop-at.at + 1) (place_of c.args.context.now)) c.args.first c.saturating_add-number.result _ _ same kept c.in_err-number-in-Maybe.ensures.fault in
    search rules

pub loop-at-preserved : goal.loop-at-preserved
loop-at-preserved t c =
    let kept = keeps_here c.args.result_type (sites (pattern_of c.args.elements.now) (place_of c.args.context.now)) c.args.elements.now c.loop-at.at (place_of c.args.context.now) c.index-elements-at.result
    (take (length c.args.elements.now - (c.loop-at.at + 1)) (drop (c.loop-at.at + 1) c.args.elements.now)) _ c.args.first c.loop-at.number c.saturating_add-number.result c.broken_rule.result
    (record {
      within = c.loop-at-test.true;
      is = c.index-elements-at.is;
      others = take_rest c.args.elements.now (c.loop-at.at + 1);
      place = ap (λ e. let q : Place = record (place_of c.args.context.now) { earlier = e } in q) (before_elements _ _);
    })
    c.loop-at.invariant c.in_default.is c.broken_rule.ensures c.saturating_add-number.ensures in
    elim c.match-element.branch [
      | in-Literal w ↦ after_literal c.args.result_type (sites (pattern_of c.args.elements.now) (place_of c.args.context.now)) (left c.args.elements.now (c.loop-at.at + 1) (place_of c.args.context.now)) _ w.in-Literal.token (pattern_of (drop (c.loop-at.at + 1) c.args.elements.now)) (place_at c.args.elements.now c.loop-at.at (place_of c.args.context.now)) c.args.first c.saturating_add-number.result c.match-element.number (sym c.index-elements-at.is ∙ w.in-Literal.is) kept w.number-is
      | in-Bind w ↦ after_binder c.args.result_type (sites (pattern_of c.args.elements.now) (place_of c.args.context.now)) (left c.args.elements.now (c.loop-at.at + 1) (place_of c.args.context.now)) _ w.in-Bind.kind w.in-Bind.name w.in-Bind.span (pattern_of (drop (c.loop-at.at + 1) c.args.elements.now)) (place_at c.args.elements.now c.loop-at.at (place_of c.args.context.now)) c.args.first c.saturating_add-number.result c.match-element.number (sym c.index-elements-at.is ∙ w.in-Bind.is) kept w.number-is
      | in-Repeat+in_ok-number-in-Repeat w ↦
          let same = sites_of_repetition c.args.elements.now c.loop-at.at (place_of c.args.context.now) c.index-elements-at.result (take (length c.args.elements.now - (c.loop-at.at + 1)) (drop (c.loop-at.at + 1) c.args.elements.now)) _ w.in-Repeat.least w.in-Repeat.sep w.in-Repeat.body w.as_slice.result.now w.as_slice-in-Repeat.result.now w.in-Repeat.span (place_of w.in_repetition-inside.result)
          (record {
            within = c.loop-at-test.true;
            is = c.index-elements-at.is;
            others = take_rest c.args.elements.now (c.loop-at.at + 1);
            place = ap (λ e. let q : Place = record (place_of c.args.context.now) { earlier = e } in q) (before_elements _ _);
          })
          w.in-Repeat.is w.as_slice.ensures w.as_slice-in-Repeat.ensures w.in_repetition-inside.ensures in
          after_inner c.args.result_type (sites (pattern_of c.args.elements.now) (place_of c.args.context.now)) (inner (at_element c.args.elements.now c.loop-at.at c.index-elements-at.result) (place_at c.args.elements.now c.loop-at.at (place_of c.args.context.now)))
          (sites (pattern_of w.as_slice-in-Repeat.result.now) (place_of w.in_repetition-inside.result)) (left c.args.elements.now (c.loop-at.at + 1) (place_of c.args.context.now))
          c.args.first c.saturating_add-number.result w.in_ok-number-in-Repeat.number c.match-element.number same kept w.in_ok-number-in-Repeat.ensures.ok w.number-is
      | in-Maybe+in_ok-number-in-Maybe w ↦
          let same = sites_of_option c.args.elements.now c.loop-at.at (place_of c.args.context.now) c.index-elements-at.result (take (length c.args.elements.now - (c.loop-at.at + 1)) (drop (c.loop-at.at + 1) c.args.elements.now)) _ w.in-Maybe.intro w.in-Maybe.body w.as_slice-in-Maybe.result.now w.in-Maybe.span (place_of w.in_option-inside.result)
          (record {
            within = c.loop-at-test.true;
            is = c.index-elements-at.is;
            others = take_rest c.args.elements.now (c.loop-at.at + 1);
            place = ap (λ e. let q : Place = record (place_of c.args.context.now) { earlier = e } in q) (before_elements _ _);
          })
          w.in-Maybe.is w.as_slice-in-Maybe.ensures w.in_option-inside.ensures in
          after_inner c.args.result_type (sites (pattern_of c.args.elements.now) (place_of c.args.context.now)) (inner (at_element c.args.elements.now c.loop-at.at c.index-elements-at.result) (place_at c.args.elements.now c.loop-at.at (place_of c.args.context.now)))
          (sites (pattern_of w.as_slice-in-Maybe.result.now) (place_of w.in_option-inside.result)) (left c.args.elements.now (c.loop-at.at + 1) (place_of c.args.context.now))
          c.args.first c.saturating_add-number.result w.in_ok-number-in-Maybe.number c.match-element.number same kept w.in_ok-number-in-Maybe.ensures.ok w.number-is
    ]

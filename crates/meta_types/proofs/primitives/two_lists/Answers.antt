use Rattle.std.proofs.Common.{sym, ap, ◌∙◌}
use Rattle.std.specs.Option.{option_and_then}
use Rattle.std.proofs.Common.{[], ◌∷◌}
use Rattle.meta_types.specs.Signatures.{variable_of}
use Rattle.meta_types.proofs.Calls.{element, no_two, two_lists_of}
use Rattle.meta_types.proofs.primitives.two_lists.Goals as goal

pub returns-in_err-first-clause-element : goal.returns-in_err-first-clause-element
returns-in_err-first-clause-element c = c.from_residual.ensures ∙ sym (no_two _ _ _ c.args.args.now (sym c.both.ensures ∙ c.in_err-first.was))

pub returns-in_err-first-2-clause-element : goal.returns-in_err-first-2-clause-element
returns-in_err-first-2-clause-element c =
    c.from_residual-in_err-first-2.ensures
    ∙ sym (two_lists_of c.args.args.now c.in_ok-first.first c.in_ok-first.second (sym c.both.ensures ∙ c.in_ok-first.was) ∙ ap (option_and_then (λ s. option_and_then (λ t. variable_of (s ∷ t ∷ [])) (element c.in_ok-first.second))) (sym c.element.ensures ∙ c.in_err-first-2.was))

pub returns-in_err-second-clause-element : goal.returns-in_err-second-clause-element
returns-in_err-second-clause-element c =
    c.from_residual-in_err-second.ensures
    ∙ sym (two_lists_of c.args.args.now c.in_ok-first.first c.in_ok-first.second (sym c.both.ensures ∙ c.in_ok-first.was) ∙ ap (option_and_then (λ s. option_and_then (λ t. variable_of (s ∷ t ∷ [])) (element c.in_ok-first.second))) (sym c.element.ensures ∙ c.in_ok-first-2.was)
    ∙ ap (option_and_then (λ t. variable_of (c.in_ok-first-2.first ∷ t ∷ []))) (sym c.element-2.ensures ∙ c.in_err-second.was))

pub returns-clause-element : goal.returns-clause-element
returns-clause-element c =
    c.common.ensures.common
    ∙ sym (two_lists_of c.args.args.now c.in_ok-first.first c.in_ok-first.second (sym c.both.ensures ∙ c.in_ok-first.was) ∙ ap (option_and_then (λ s. option_and_then (λ t. variable_of (s ∷ t ∷ [])) (element c.in_ok-first.second))) (sym c.element.ensures ∙ c.in_ok-first-2.was)
    ∙ ap (option_and_then (λ t. variable_of (c.in_ok-first-2.first ∷ t ∷ []))) (sym c.element-2.ensures ∙ c.in_ok-second.was))

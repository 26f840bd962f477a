use Rattle.std.proofs.Common.{sym, ap, ◌∙◌}
use Rattle.std.specs.Option.{option_and_then}
use Rattle.std.proofs.Common.{[], ◌∷◌}
use Rattle.meta_types.specs.Signatures.{variable_of}
use Rattle.meta_types.proofs.Calls.{no_two, item_and_list_of}
use Rattle.meta_types.proofs.primitives.element_and_list.Goals as goal

pub returns-in_err-first-clause-element : goal.returns-in_err-first-clause-element
returns-in_err-first-clause-element c = c.from_residual.ensures ∙ sym (no_two _ _ _ c.args.args.now (sym c.both.ensures ∙ c.in_err-first.was))

pub returns-in_err-element-clause-element : goal.returns-in_err-element-clause-element
returns-in_err-element-clause-element c =
    c.from_residual-in_err-element.ensures
    ∙ sym (item_and_list_of c.args.args.now c.in_ok-first.first c.in_ok-first.others (sym c.both.ensures ∙ c.in_ok-first.was) ∙ ap (option_and_then (λ t. variable_of (c.in_ok-first.first ∷ t ∷ []))) (sym c.element.ensures ∙ c.in_err-element.was))

pub returns-clause-element : goal.returns-clause-element
returns-clause-element c =
    c.common.ensures.common
    ∙ sym (item_and_list_of c.args.args.now c.in_ok-first.first c.in_ok-first.others (sym c.both.ensures ∙ c.in_ok-first.was) ∙ ap (option_and_then (λ t. variable_of (c.in_ok-first.first ∷ t ∷ []))) (sym c.element.ensures ∙ c.in_ok-element.was))

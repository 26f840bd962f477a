use Rattle.std.proofs.Common.{sym, ap, ◌∙◌}
use Rattle.std.specs.Option.{option_and_then}
use Rattle.std.proofs.Common.{[], ◌∷◌}
use Rattle.meta_types.specs.Signatures.{variable_of}
use Rattle.meta_types.proofs.Calls.{no_one, one_list_of}
use Rattle.meta_types.proofs.primitives.one_list.Goals as goal

pub returns-in_err-arg-clause-element : goal.returns-in_err-arg-clause-element
returns-in_err-arg-clause-element c = c.from_residual.ensures ∙ sym (no_one _ _ c.args.args.now (sym c.only.ensures ∙ c.in_err-arg.was))

pub returns-in_err-element-clause-element : goal.returns-in_err-element-clause-element
returns-in_err-element-clause-element c =
    c.from_residual-in_err-element.ensures
    ∙ sym (one_list_of c.args.args.now c.in_ok-arg.arg (sym c.only.ensures ∙ c.in_ok-arg.was) ∙ ap (option_and_then (λ t. variable_of (t ∷ []))) (sym c.element.ensures ∙ c.in_err-element.was))

pub returns-clause-element : goal.returns-clause-element
returns-clause-element c =
    c.few_lists.ensures.only
    ∙ sym (one_list_of c.args.args.now c.in_ok-arg.arg (sym c.only.ensures ∙ c.in_ok-arg.was) ∙ ap (option_and_then (λ t. variable_of (t ∷ []))) (sym c.element.ensures ∙ c.in_ok-element.was))

use Rattle.std.proofs.Common.{sym, ◌∙◌, true, false}
use Rattle.meta_types.proofs.Calls.{no_one, one_fits}
use Rattle.meta_types.proofs.primitives.of_one.Goals as goal

pub returns-in_err-arg : goal.returns-in_err-arg
returns-in_err-arg c = c.from_residual.ensures ∙ sym (no_one _ _ c.args.args.now (sym c.only.ensures ∙ c.in_err-arg.was))

pub returns-then-fits : goal.returns-then-fits
returns-then-fits c = sym (one_fits c.args.wanted c.args.given c.args.args.now c.in_ok-arg.arg true (sym c.only.ensures ∙ c.in_ok-arg.was) (sym c.fits.ensures.test ∙ c.if-fits.true))

pub returns-else-fits : goal.returns-else-fits
returns-else-fits c = sym (one_fits c.args.wanted c.args.given c.args.args.now c.in_ok-arg.arg false (sym c.only.ensures ∙ c.in_ok-arg.was) (sym c.fits.ensures.test ∙ c.if-fits.false))

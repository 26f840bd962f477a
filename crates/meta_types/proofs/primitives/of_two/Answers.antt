use Rattle.std.proofs.Common.{sym, ◌∙◌, true, false, refl}
use Rattle.meta_types.proofs.Calls.{no_two, two_fit}
use Rattle.meta_types.specs.Fit.{does_fit}
use Rattle.meta_types.proofs.primitives.of_two.Goals as goal
use Rattle.meta_types.proofs.primitives.of_two.Goals.{else-fits-via-then-fits+else-fits-2, else-fits-via-else-fits}

pub returns-in_err-arg : goal.returns-in_err-arg
returns-in_err-arg c = c.from_residual.ensures ∙ sym (no_two _ _ _ c.args.args.now (sym c.both.ensures ∙ c.in_err-arg.was))

pub returns-then-fits-2 : goal.returns-then-fits-2
returns-then-fits-2 c =
    sym (two_fit c.args.wanted c.args.wanted_next c.args.given c.args.args.now c.in_ok-arg.arg c.in_ok-arg.next true true (sym c.both.ensures ∙ c.in_ok-arg.was) (sym c.fits.ensures.test ∙ c.if-fits.true) (sym c.fits-then-fits.ensures.test ∙ c.if-fits-2.true))

pub returns-else-fits : goal.returns-else-fits
returns-else-fits c = elim c.else-fits.branch [
  | else-fits-via-then-fits+else-fits-2 w ↦
      sym (two_fit c.args.wanted c.args.wanted_next c.args.given c.args.args.now c.in_ok-arg.arg c.in_ok-arg.next true false (sym c.both.ensures ∙ c.in_ok-arg.was) (sym c.fits.ensures.test ∙ w.if-fits.true) (sym w.fits-then-fits.ensures.test ∙ w.if-fits-2.false))
  | else-fits-via-else-fits w ↦
      sym (two_fit c.args.wanted c.args.wanted_next c.args.given c.args.args.now c.in_ok-arg.arg c.in_ok-arg.next false (does_fit c.in_ok-arg.next c.args.wanted_next) (sym c.both.ensures ∙ c.in_ok-arg.was) (sym c.fits.ensures.test ∙ w.if-fits.false) refl)
]

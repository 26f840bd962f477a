use Rattle.std.proofs.Common.{sym, ◌∙◌, ap}
use Rattle.c_tokens.specs.Runs.{first_prefix}
use Rattle.c_tokens.specs.Shown.{shown}
use Rattle.c_lexer.specs.Shown.{signs_in}
use Rattle.c_lexer.proofs.Found.{measured, others_found, others_missing}
use Rattle.c_lexer.proofs.piece.sign_in.Goals as goal

pub returns-in-C90 : goal.returns-in-C90
unfolding shown
returns-in-C90 c = c.starting.ensures ∙ ap (λ d. measured (first_prefix c.args.text.now (signs_in d))) (sym c.in-C90.is)

pub returns-in-Some : goal.returns-in-Some
unfolding shown
returns-in-Some c = others_found c.args.text.now c.in-Some.found (sym c.in-Some.is ∙ c.starting-in-C95.ensures) ∙ ap (λ d. measured (first_prefix c.args.text.now (signs_in d))) (sym c.in-C95.is)

pub returns-in-None : goal.returns-in-None
unfolding shown
returns-in-None c =
    c.starting-in-None.ensures ∙ others_missing c.args.text.now (sym c.in-None.is ∙ c.starting-in-C95.ensures) ∙ ap (λ d. measured (first_prefix c.args.text.now (signs_in d))) (sym c.in-C95.is)

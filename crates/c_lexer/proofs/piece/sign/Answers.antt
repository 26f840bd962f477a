use Rattle.std.proofs.Common.{refl, sym, ◌∙◌}
use Rattle.c_tokens.specs.Runs.{first_prefix}
use Rattle.c_lexer.specs.Shown.{signs_in}
use Rattle.c_lexer.proofs.Found.{sign_found, stray_found, some_in_sign}
use Rattle.c_lexer.proofs.piece.sign.Goals as goal

pub bounds-text-0 : goal.bounds-text-0
bounds-text-0 c = some_in_sign c.args.text.now c.requires.sign

pub returns-in-Some : goal.returns-in-Some
returns-in-Some c =
    sign_found c.args.dialect c.args.text.now (record { length = c.in-Some.length; meaning = c.in-Some.meaning }) (first_prefix c.args.text.now (signs_in c.args.dialect)) refl c.requires.opens c.requires.sign (sym c.in-Some.is ∙ c.sign_in.ensures)

pub returns-in-None : goal.returns-in-None
returns-in-None c =
    stray_found c.args.dialect c.args.text.now c.stray.result (first_prefix c.args.text.now (signs_in c.args.dialect)) refl c.requires.opens c.requires.sign (sym c.in-None.is ∙ c.sign_in.ensures) c.stray.ensures

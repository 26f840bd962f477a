use Rattle.std.proofs.Common.{◌≡◌, Some, drop, ap, sym, ◌∙◌, rules, arith, length, ◌≤◌, ◌+◌}
use Rattle.std.proofs.lemmas.List.{length-drop}
use Rattle.c_tokens.specs.Skipped.{through_close}
use Rattle.c_tokens.proofs.Opened.{close-within}
use Rattle.c_lexer.proofs.Found.{comment_found, comment_open, comment_some}
use Rattle.c_lexer.proofs.skipped.comment.Goals as goal

pub overflow_add-result : goal.overflow_add-result
overflow_add-result c =
    let found : through_close (drop 2 c.args.text.now) ≡ Some c.in-Some.length = ap through_close (sym c.from.ensures) ∙ sym c.close_length.ensures ∙ c.in-Some.is in
    let w : 2 + c.in-Some.length ≤ length c.args.text.now = omega (arith, close-within (drop 2 c.args.text.now) c.in-Some.length found, length-drop 2 c.args.text.now, comment_some c.args.text.now c.requires) in
    search rules

pub returns-in-Some : goal.returns-in-Some
returns-in-Some c d = comment_found d c.args.text.now c.in-Some.length c.requires (ap through_close (sym c.from.ensures) ∙ sym c.close_length.ensures ∙ c.in-Some.is)

pub returns-in-None : goal.returns-in-None
returns-in-None c d = comment_open d c.args.text.now c.requires (ap through_close (sym c.from.ensures) ∙ sym c.close_length.ensures ∙ c.in-None.is)

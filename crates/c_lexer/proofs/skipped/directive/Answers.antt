use Rattle.std.proofs.Common.{ap, sym, ◌∙◌, arith, take, ◌+◌}
use Rattle.std.proofs.lemmas.List.{length-take}
use Rattle.c_tokens.specs.Skipped.{is_marker_line}
use Rattle.c_lexer.proofs.Found.{line_run_le, marker_found, directive_found}
use Rattle.c_lexer.proofs.skipped.directive.Goals as goal

pub slice_bounds-is_marker_line-end : goal.slice_bounds-is_marker_line-end
slice_bounds-is_marker_line-end c = omega (arith, c.line_length-line.ensures, line_run_le c.args.text.now, length-take c.line_length-line.result c.args.text.now)

pub returns-then-line-text : goal.returns-then-line-text
returns-then-line-text c d o =
    let n = c.line_length-line.ensures in
    marker_found d c.args.text.now (c.line_length-line.result + 1) o (ap (λ k. is_marker_line (take k c.args.text.now)) (sym n) ∙ sym c.is_marker_line.ensures ∙ c.if-is_marker_line.true) (omega (arith, n)) (omega (arith, n)) (omega (arith, n)) (λ m past within. omega (arith, n))

pub returns-else-line-text : goal.returns-else-line-text
returns-else-line-text c d o =
    let n = c.line_length-line.ensures in
    marker_found d c.args.text.now c.line_length-line.result o (ap (λ k. is_marker_line (take k c.args.text.now)) (sym n) ∙ sym c.is_marker_line.ensures ∙ c.if-is_marker_line.true) (omega (arith, n)) (omega (arith, n, line_run_le c.args.text.now)) (omega (arith, n)) (λ m past within. omega (arith, n))

pub returns-else-is_marker_line : goal.returns-else-is_marker_line
returns-else-is_marker_line c d o = directive_found d c.args.text.now (omega (arith, c.requires)) o (ap (λ k. is_marker_line (take k c.args.text.now)) (sym c.line_length-line.ensures) ∙ sym c.is_marker_line.ensures ∙ c.if-is_marker_line.false)

use Rattle.std.proofs.Common.{sym, ◌∙◌, arith}
use Rattle.std.proofs.Common.{◌≡◌}
use Rattle.c_tokens.specs.Runs.{number_run}
use Rattle.c_lexer.proofs.Heads.{number_stops, number_goes_on, number_ends}
use Rattle.c_lexer.proofs.runs.number_length.Goals as goal

pub returns-then-not-goes_on_number : goal.returns-then-not-goes_on_number
returns-then-not-goes_on_number c = number_stops c.args.first c.loop-index.before c.args.text.now c.loop-index.index (omega arith) (sym c.goes_on_number.ensures ∙ c.if-not-goes_on_number.true) c.loop-index.invariant

pub loop-index-preserved : goal.loop-index-preserved
loop-index-preserved c = number_goes_on c.args.first c.loop-index.before c.args.text.now c.loop-index.index (omega arith) (sym c.goes_on_number.ensures ∙ c.if-not-goes_on_number.false) c.loop-index.invariant

pub returns : goal.returns
returns c =
    let end : c.loop-index.index ≡ number_run c.args.first c.args.text.now = number_ends c.args.first c.loop-index.before c.args.text.now c.loop-index.index (omega arith) c.loop-index.invariant in
    omega arith

use Rattle.std.proofs.Common.{◌≡◌, arith}
use Rattle.c_tokens.specs.Skipped.{line_run}
use Rattle.c_lexer.proofs.Heads.{line_stops, line_goes_on, line_ends}
use Rattle.c_lexer.proofs.runs.line_length.Goals as goal

pub returns-then-byte-eq10 : goal.returns-then-byte-eq10
returns-then-byte-eq10 c = line_stops c.args.text.now c.loop-index.index (omega arith) c.if-byte-eq10.true c.loop-index.invariant

pub loop-index-preserved : goal.loop-index-preserved
loop-index-preserved c = line_goes_on c.args.text.now c.loop-index.index (omega arith) c.if-byte-eq10.false c.loop-index.invariant

pub returns : goal.returns
returns c =
    let end : c.loop-index.index ≡ line_run c.args.text.now = line_ends c.args.text.now c.loop-index.index (omega arith) c.loop-index.invariant in
    omega arith

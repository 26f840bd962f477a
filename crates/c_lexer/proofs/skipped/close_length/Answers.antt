use Rattle.std.proofs.Common.{sym, ◌∙◌, arith}
use Rattle.c_lexer.proofs.Heads.{close_hit, close_miss, close_none}
use Rattle.c_lexer.proofs.skipped.close_length.Goals as goal

pub returns-then-closes_at : goal.returns-then-closes_at
returns-then-closes_at c = close_hit c.args.text.now c.loop-index.index (omega arith) (sym c.closes_at.ensures ∙ c.if-closes_at.true) c.loop-index.invariant

pub loop-index-preserved : goal.loop-index-preserved
loop-index-preserved c = close_miss c.args.text.now c.loop-index.index (omega arith) (sym c.closes_at.ensures ∙ c.if-closes_at.false) c.loop-index.invariant

pub returns : goal.returns
returns c = close_none c.args.text.now c.loop-index.index (omega arith) c.loop-index.invariant

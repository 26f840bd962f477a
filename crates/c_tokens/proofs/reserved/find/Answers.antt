use Rattle.std.proofs.Common.{◌∙◌, sym, arith}
use Rattle.c_tokens.proofs.Rows.{find-hit, find-miss, find-end}
use Rattle.c_tokens.proofs.reserved.find.Goals as goal

pub returns-then-eq : goal.returns-then-eq
returns-then-eq g c = find-hit c.args.text.now c.args.table.now c.loop-spelled.spelled-index c.loop-spelled-item.result (omega arith) c.loop-spelled-item.is (sym c.eq.ensures ∙ c.if-eq.true) c.loop-spelled.invariant

pub loop-spelled-preserved : goal.loop-spelled-preserved
loop-spelled-preserved g c = find-miss c.args.text.now c.args.table.now c.loop-spelled.spelled-index c.loop-spelled-item.result (omega arith) c.loop-spelled-item.is (sym c.eq.ensures ∙ c.if-eq.false) c.loop-spelled.invariant

pub returns : goal.returns
returns g c = sym (c.loop-spelled.invariant ∙ find-end c.args.text.now c.args.table.now c.loop-spelled.spelled-index (omega arith))

use Rattle.std.proofs.Common.{arith}
use Rattle.scope_tables.proofs.Kept.{words-step}
use Rattle.scope_tables.proofs.table.ScopeTable.innermost.Goals as goal

pub loop-at-preserved : goal.loop-at-preserved
loop-at-preserved c = record {
  within = omega (arith, c.loop-at.invariant.within);
  same = words-step c.self.inside.log.items c.loop-at.at c.index.result.now c.in-Declared.word c.in-Declared.class c.in-Declared.before c.loop-at.words.items c.push.new.self.items _
      (omega (arith, c.loop-at-test.true)) c.loop-at.invariant.within c.index.ensures c.in-Declared.is c.in_ok-push-in-Declared.ensures.items c.loop-at.invariant.same;
}

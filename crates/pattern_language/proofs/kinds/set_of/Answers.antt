use Rattle.std.proofs.Common.{arith}
use Rattle.pattern_language.proofs.SetLemmas.{one_of_more}
use Rattle.pattern_language.proofs.kinds.set_of.Goals as goal

pub loop-class-preserved : goal.loop-class-preserved
loop-class-preserved c = λ class. let next = c.with-set.ensures class in let kept = c.loop-class.invariant class in grind (arith, one_of_more)

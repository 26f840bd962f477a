use Rattle.std.proofs.Common.{arith, length-drop}
use Rattle.io_edge.proofs.Pieces.{Appends-next}
use Rattle.io_edge.proofs.write.put_all.Goals as goal

pub loop-sent-preserved : goal.loop-sent-preserved
loop-sent-preserved g c = (
  omega (arith, c.in-Took.ensures.count, length-drop {A = _} c.loop-sent.sent c.args.bytes.now),
  omega arith,
  Appends-next _ _ _ _ _ _ c.loop-sent.invariant.2 c.in-Took.ensures.took,
  λ nothing. absurd (omega (arith, c.in-Took.ensures.count)),
)

use Rattle.std.proofs.Common.{arith}
use Rattle.std.proofs.lemmas.Grind.{common_steps}
use Rattle.c_tokens.specs.Places.{line_at, column_at}
use Rattle.c_tokens.proofs.Lines.{line-feed, line-other, column-feed, column-other}
use Rattle.c_tokens.proofs.span.place_at.Goals as goal
use Rattle.c_tokens.proofs.span.place_at.Goals.{then-byte-eq10, else-byte-eq10}

pub loop-byte-init : goal.loop-byte-init
unfolding line_at column_at
loop-byte-init c = grind (arith, common_steps)

pub loop-byte-preserved : goal.loop-byte-preserved
loop-byte-preserved c = elim c.if-byte-eq10.branch [ then-byte-eq10 w ↦ grind (arith, common_steps, line-feed, column-feed) | else-byte-eq10 w ↦ grind (arith, common_steps, line-other, column-other) ]

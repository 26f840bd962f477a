use Rattle.std.proofs.Common.{◌≤◌, take}
use Rattle.std.specs.List.{flat_map}
use Rattle.io_edge.specs.Put.{Appends}
use Rattle.ms2_top.proofs.messages.put_pieces.Given as goal

abbrev pub invariant-loop-piece : goal.invariant-loop-piece
invariant-loop-piece g l = record {
  sent : Appends (g.E.Sink.held l.initial.sink) (flat_map (λ piece. piece.now) (take l.piece-index l.pieces)) (g.E.Sink.held l.sink);
  faults : g.E.Sink.faults l.initial.sink ≤ g.E.Sink.faults l.sink;
}

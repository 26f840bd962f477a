use Rattle.std.proofs.Common.{subst, take, []}
use Rattle.std.specs.List.{SomeIndex}
use Rattle.io_edge.specs.Put.{Appends}
use Rattle.ms2_top.proofs.Lines.{front_of_pieces, on_err}
use Rattle.ms2_top.proofs.messages.put_pieces.Goals as goal

pub returns-in_err-put_all-clause-part : goal.returns-in_err-put_all-clause-part
returns-in_err-put_all-clause-part g c = on_err c.from_residual.result
    (front_of_pieces _ (g.E.Sink.held c.loop-piece.sink) _ c.args.pieces.now c.loop-piece.piece-index (record { ref_ptr = (0, 0); now = [] }) c.loop-piece-test.true
    c.loop-piece.invariant.sent
    (subst (λ b. SomeIndex b (λ n. Appends (g.E.Sink.held c.loop-piece.sink) (take n b) (g.E.Sink.held c.put_all.new.sink))) c.as_bytes.ensures.value c.in_err-put_all.ensures.part))

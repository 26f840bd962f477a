use Rattle.std.proofs.Common.{length, ◌-◌, ◌≡◌, ◌≤◌, take}
use Rattle.io_edge.specs.Put.{Appends}
use Rattle.io_edge.proofs.write.put_all.Given as goal

abbrev pub invariant-loop-sent : goal.invariant-loop-sent
invariant-loop-sent g l =
    (l.sent ≤ length l.bytes)
    × (g.O.Sink.faults l.initial.sink ≤ g.O.Sink.faults l.sink)
    × Appends (g.O.Sink.held l.initial.sink) (take l.sent l.bytes) (g.O.Sink.held l.sink)
    × (l.sent ≡ 0 → l.sink ≡ l.initial.sink)

abbrev pub decreases-loop-sent : goal.decreases-loop-sent
decreases-loop-sent g l = length l.bytes - l.sent

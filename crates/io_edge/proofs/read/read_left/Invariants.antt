use Rattle.std.proofs.Common.{◌≡◌, ◌≤◌, ◌+◌, ◌-◌, ◌++◌, vec_len}
use Rattle.std.specs.Prelude.{IsTrue, IfSome, IsSomeAnd}
use Rattle.io_edge.proofs.read.read_left.Given as goal

abbrev pub invariant-loop-block : goal.invariant-loop-block
invariant-loop-block g l =
    IsTrue (g.F.Shelf.picked l.shelf)
    × (g.F.Shelf.files l.shelf ≡ g.F.Shelf.files l.initial.shelf)
    × (g.F.Shelf.faults l.initial.shelf ≤ g.F.Shelf.faults l.shelf)
    × IfSome (g.F.Shelf.left l.initial.shelf) (λ whole.
    IsSomeAnd (g.F.Shelf.left l.shelf) (λ rest. whole ≡ l.bytes.items ++ rest))

abbrev pub decreases-loop-block : goal.decreases-loop-block
decreases-loop-block g l = (l.most + 1) - vec_len l.bytes

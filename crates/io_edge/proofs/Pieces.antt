use Rattle.std.proofs.Common.{◌≡◌, ℕ, ◌+◌, ◌-◌, List, ◌++◌, length, take, drop, append_assoc, arith}
use Rattle.std.proofs.lemmas.Grind.{common_steps}
use Rattle.std.specs.Prelude.{Option, Some, None}
use Rattle.std.proofs.Math.Seq.{take-add}
use Rattle.io_edge.specs.Put.{Appends}

-- the rest of a list from a place on, as a slice takes it
pub rest-drop : (sent : ℕ) (bytes : List ℕ) → take (length bytes - sent) (drop sent bytes) ≡ drop sent bytes
rest-drop sent bytes = grind (arith, common_steps)

-- Two pieces that follow one another are one piece.
pub Appends-next :
    (old middle new : Option (List ℕ)) (sent count : ℕ) (bytes : List ℕ)
    → Appends old (take sent bytes) middle
    → Appends middle (take count (take (length bytes - sent) (drop sent bytes))) new
    → Appends old (take (sent + count) bytes) new
Appends-next None middle new sent count bytes first next = tt
Appends-next (Some held) middle new sent count bytes first next =
    let later : Appends (Some (held ++ take sent bytes)) (take count (take (length bytes - sent) (drop sent bytes))) new =
    rw first at next
    in rw (take-add sent count bytes, ← append_assoc held (take sent bytes) (take count (drop sent bytes)))
    (rw (rest-drop sent bytes) at later)

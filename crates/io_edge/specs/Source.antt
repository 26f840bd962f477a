use Rattle.std.specs.Prelude.{◌≡◌, ℕ, ◌<◌, ◌≤◌, List, length, Option, Some, None, IsSome, IsSomeAnd, Result, Ok, Err, Vec}
use Rattle.io_edge.specs.declared.read.ReadStop.{ReadStop}
use Rattle.io_edge.specs.declared.read.ReadStop.TheVariants.{Absent, ReadFault, TooLarge, Memory}

-- What each answer says of the file that was asked for, of which at most so many bytes are wanted.
-- ReadFault says nothing of it, and Memory only that it is there.
abbrev pub IsAnswerFor : {A : Type 0} → Option (List ℕ) → ℕ → Result (Vec ℕ A) ReadStop → Type 0
IsAnswerFor file most (Ok bytes) = (file ≡ Some bytes.items) × (length bytes.items ≤ most)
IsAnswerFor file most (Err Absent) = file ≡ None
IsAnswerFor file most (Err TooLarge) = IsSomeAnd file (λ bytes. most < length bytes)
IsAnswerFor file most (Err ReadFault) = Unit {0}
IsAnswerFor file most (Err Memory) = IsSome file

use Rattle.std.specs.Prelude.{◌≡◌, ℕ, ◌-◌, List, ◌++◌, length, Contains, ◌⊎◌}
use Rattle.io_edge.specs.Faults.{one_more}

-- A sink in memory: what it holds and has room for, the most that it takes in one send, the numbers of
-- the sends that fail, and how many sends and faults there were.
pub record SinkState : Type 0 where
  pub bytes : List ℕ
  pub room : ℕ
  pub most : ℕ
  pub failing : List ℕ
  pub calls : ℕ
  pub faults : ℕ

-- how many bytes more the sink takes
abbrev pub room_left : SinkState → ℕ
room_left sink = sink.room - length sink.bytes

-- The next send has the number of one that fails, or no room is left.
abbrev pub FailsNext : SinkState → Type 0
FailsNext sink = Contains sink.failing (one_more sink.calls) ⊎ (length sink.bytes ≡ sink.room)

-- the sink after a send that took this piece
abbrev pub after_send : SinkState → List ℕ → SinkState
after_send sink piece = record sink { bytes = sink.bytes ++ piece; calls = one_more sink.calls }

-- the sink after a send that failed
abbrev pub after_fault : SinkState → SinkState
after_fault sink = record sink { calls = one_more sink.calls; faults = one_more sink.faults }

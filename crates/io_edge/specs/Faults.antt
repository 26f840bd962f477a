use Rattle.std.specs.Prelude.{ℕ, ◌+◌, ◌-◌, ◌^◌, ◌≤◌, min}

-- A counter of 64 bits after one more: it stands still at its last value.
abbrev pub one_more : ℕ → ℕ
one_more count = min (count + 1) (2 ^ 64 - 1)

-- The count of faults rose: it is larger, or it stands at the last value of a counter.
abbrev pub Rose : ℕ → ℕ → Type 0
Rose before now = one_more before ≤ now

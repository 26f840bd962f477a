use Rattle.io_edge.specs.declared.shelf.Picked.{Picked}
use Rattle.io_edge.specs.declared.shelf.Picked.TheVariants.{Ready, Absent, Failed}

-- the fact, if the answer is Ready
abbrev pub OnReady : Picked → Type 0 → Type 0
OnReady Ready P = P
OnReady Absent P = Unit {0}
OnReady Failed P = Unit {0}

-- the fact, if the answer is Absent
abbrev pub OnAbsent : Picked → Type 0 → Type 0
OnAbsent Ready P = Unit {0}
OnAbsent Absent P = P
OnAbsent Failed P = Unit {0}

-- the fact, if the answer of a pick is Failed
abbrev pub OnPickFailed : Picked → Type 0 → Type 0
OnPickFailed Ready P = Unit {0}
OnPickFailed Absent P = Unit {0}
OnPickFailed Failed P = P

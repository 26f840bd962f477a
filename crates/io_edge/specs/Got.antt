use Rattle.std.specs.Prelude.{ℕ}
use Rattle.io_edge.specs.declared.shelf.Got.{Got}
use Rattle.io_edge.specs.declared.shelf.Got.TheVariants.{Bytes, End, Failed}

-- the fact about the number of bytes that were read, if any were
abbrev pub IfBytes : Got → (ℕ → Type 0) → Type 0
IfBytes (Bytes n) P = P n
IfBytes End P = Unit {0}
IfBytes Failed P = Unit {0}

-- the fact, if the answer is End
abbrev pub OnEnd : Got → Type 0 → Type 0
OnEnd (Bytes n) P = Unit {0}
OnEnd End P = P
OnEnd Failed P = Unit {0}

-- the fact, if the answer of a read is Failed
abbrev pub OnReadFailed : Got → Type 0 → Type 0
OnReadFailed (Bytes n) P = Unit {0}
OnReadFailed End P = Unit {0}
OnReadFailed Failed P = P

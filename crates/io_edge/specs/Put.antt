use Rattle.std.specs.Prelude.{◌≡◌, ℕ, List, ◌++◌, Option, Some, IfSome}
use Rattle.io_edge.specs.declared.sink.Put.{Put}
use Rattle.io_edge.specs.declared.sink.Put.TheVariants.{Took, Failed}

-- the fact about the number of bytes that were taken, if any were
abbrev pub IfTook : Put → (ℕ → Type 0) → Type 0
IfTook (Took n) P = P n
IfTook Failed P = Unit {0}

-- the fact, if the answer of a send is Failed
abbrev pub OnSendFailed : Put → Type 0 → Type 0
OnSendFailed (Took n) P = Unit {0}
OnSendFailed Failed P = P

-- A sink that told its bytes tells the same bytes with this piece after them.
abbrev pub Appends : Option (List ℕ) → List ℕ → Option (List ℕ) → Type 0
Appends old piece new = IfSome old (λ bytes. new ≡ Some (bytes ++ piece))

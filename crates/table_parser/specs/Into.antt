-- What a function ensures that leaves what it reads in a variable of its caller.
use Rattle.std.specs.Prelude.{◌≡◌, ◌≢◌, Result, Ok, Err}
use Rattle.c_reader.specs.declared.refusal.Refusal.{Refusal}
use Rattle.c_reader.specs.declared.refusal.Refusal.TheVariants.{Memory}
use Rattle.c_reader.specs.Readers.{Input, Outcome}

-- the reader's outcome, unless memory fails; after a refusal nothing is said of the value
abbrev pub ReadsInto : {A : Type 0} → Outcome A → Result (Unit {0}) Refusal → A → Input → Type 0
ReadsInto outcome (Ok done) value new = outcome ≡ Ok (value, new)
ReadsInto outcome (Err e) value new = e ≢ Memory → outcome ≡ Err e

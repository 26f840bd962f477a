-- What the status of a run says.
use Rattle.std.specs.Prelude.{◌≡◌, ◌<◌, ◌≤◌, ◌⊎◌, ℕ, List, length, take, Option, Some, None, IfSome, IsSome, IsSomeAnd}
use Rattle.io_edge.specs.Files.{Files, file_at}
use Rattle.io_edge.specs.Put.{Appends}
use Rattle.ms2_top.specs.declared.status.Status.{Status}
use Rattle.ms2_top.specs.declared.status.Status.TheVariants.{Done, Refused, Usage, Read, Write, Memory, Limit}
use Rattle.ms2_top.specs.Outcomes.{HasNoReading, HasTooMuch, IsTextOf, most_bytes}

-- what the shelf tells of the named file: nothing, that there is none, or its bytes
abbrev pub told : Files → Option (List ℕ) → Option (Option (List ℕ))
told files None = None
told files (Some name) = file_at files name

-- the bytes are those of the file, where the shelf tells it
abbrev pub AreBytes : Option (Option (List ℕ)) → List ℕ → Type 0
AreBytes told bytes = IfSome told (λ file. file ≡ Some bytes)

-- the sink has the text of the file, or a front of it
pub record Writes (bytes : List ℕ) (front : List ℕ → List ℕ → Type 0) (old new : Option (List ℕ)) : Type 0 where
  pub text : List ℕ
  pub is_text : IsTextOf bytes text
  pub sent : List ℕ
  pub front_is : front sent text
  pub holds : Appends old sent new

abbrev pub Whole : List ℕ → List ℕ → Type 0
Whole sent text = sent ≡ text

abbrev pub Front : List ℕ → List ℕ → Type 0
Front sent text = (n : ℕ) × (sent ≡ take n text)

-- what each status says of the bytes of a file that was read
abbrev pub IsAnswer : List ℕ → Option (List ℕ) → Option (List ℕ) → Status → Type 0
IsAnswer bytes old new Done = Writes bytes Whole old new
IsAnswer bytes old new Write = Writes bytes Front old new
IsAnswer bytes old new Refused = HasNoReading bytes
IsAnswer bytes old new Limit = HasTooMuch bytes
IsAnswer bytes old new Memory = Unit {0}
IsAnswer bytes old new _ = ⊥

-- a file within the limit was read: it is the one that the shelf tells, where it tells it
pub record IsReadFile (told : Option (Option (List ℕ))) (old new : Option (List ℕ)) (status : Status) : Type 0 where
  pub bytes : List ℕ
  pub is_told : AreBytes told bytes
  pub within : length bytes ≤ most_bytes
  pub answer : IsAnswer bytes old new status

-- where the shelf tells the file, it is too large
abbrev pub IsTooLarge : Option (Option (List ℕ)) → Type 0
IsTooLarge told = IfSome told (λ file. IsSomeAnd file (λ bytes. most_bytes < length bytes))

-- What each status says of the file and of what `out` holds, whether the shelf tells its files or not. The words alone
-- decide about Usage, and the devices about Read.
abbrev pub IsRun : Option (Option (List ℕ)) → Option (List ℕ) → Option (List ℕ) → Status → Type 0
IsRun told old new Usage = Unit {0}
IsRun told old new Read = Unit {0}
IsRun told old new Memory = IfSome told IsSome
IsRun told old new Limit = IsTooLarge told ⊎ IsReadFile told old new Limit
IsRun told old new status = IsReadFile told old new status

-- the status that the bytes of a file have, where no device fails
abbrev pub IsSettled : List ℕ → Status → Type 0
IsSettled bytes Done = (text : List ℕ) × IsTextOf bytes text
IsSettled bytes Refused = HasNoReading bytes
IsSettled bytes Limit = HasTooMuch bytes
IsSettled bytes Memory = Unit {0}
IsSettled bytes _ = ⊥

-- only what is written changes the sink
abbrev pub KeepsUnless : {O : Type 0} → Status → O → O → Type 0
KeepsUnless Done old new = Unit {0}
KeepsUnless Write old new = Unit {0}
KeepsUnless _ old new = new ≡ old

-- How a run over a file ends.
use Rattle.std.specs.Prelude.{◌≡◌, ◌<◌, ◌≤◌, ℕ, List, length, Option, IfSome, IsSomeAnd}
use Rattle.c_tokens.specs.Places.{line_at, column_at}
use Rattle.expander.specs.declared.stop.Stop.TheVariants as stop
use Rattle.ms2_top.specs.declared.ending.Ending.{Ending}
use Rattle.ms2_top.specs.declared.ending.Ending.TheVariants as ending
use Rattle.ms2_top.specs.declared.ending.Refusal.{Refusal}
use Rattle.ms2_top.specs.declared.ending.Reason.{Reason}
use Rattle.ms2_top.specs.declared.ending.Reason.TheVariants as reason
use Rattle.ms2_top.specs.declared.status.Status.{Status}
use Rattle.ms2_top.specs.declared.status.Status.TheVariants.{Done, Refused, Read, Write, Memory, Limit}
use Rattle.ms2_top.specs.Outcomes.{IsNoToken, IsStopOf, most_bytes}

abbrev pub status_of : Ending → Status
status_of ending.Done = Done
status_of (ending.Refused refusal) = Refused
status_of ending.Read = Read
status_of ending.Write = Write
status_of ending.Memory = Memory
status_of ending.FileTooLarge = Limit
status_of ending.TextTooLarge = Limit

-- The bytes are refused at this byte for this reason: they are spoiled there, or the token there is the first that no
-- item has, or one that each such item has too deep, or a definition begins there.
abbrev pub IsRefusedAt : List ℕ → ℕ → Reason → Type 0
IsRefusedAt bytes at (reason.Lex cause) = IsNoToken bytes at cause
IsRefusedAt bytes at reason.Syntax = (end : ℕ) × IsStopOf bytes (stop.Syntax (record { start = at; end = end }))
IsRefusedAt bytes at reason.TooDeep = (end : ℕ) × IsStopOf bytes (stop.TooDeep (record { start = at; end = end }))
IsRefusedAt bytes at reason.NotBuilt = (end : ℕ) × IsStopOf bytes (stop.NotBuilt (record { start = at; end = end }))

-- the place and the reason are those of the refusal of the bytes
pub record IsRefusal (bytes : List ℕ) (refusal : Refusal) : Type 0 where
  pub at : ℕ
  pub refused : IsRefusedAt bytes at refusal.reason
  pub line : refusal.place.line ≡ line_at bytes at
  pub column : refusal.place.column ≡ column_at bytes at

-- the fact about the refusal, if there is one
abbrev pub IfRefused : Ending → (Refusal → Type 0) → Type 0
IfRefused (ending.Refused refusal) P = P refusal
IfRefused _ P = Unit {0}

-- where the shelf tells the file, it is too large, or it is not
abbrev pub IsLimited : Option (Option (List ℕ)) → Ending → Type 0
IsLimited told ending.FileTooLarge = IfSome told (λ file. IsSomeAnd file (λ bytes. most_bytes < length bytes))
IsLimited told ending.TextTooLarge = IfSome told (λ file. IsSomeAnd file (λ bytes. length bytes ≤ most_bytes))
IsLimited told _ = Unit {0}

-- the ending of bytes that are no source, or for want of memory
abbrev pub IsStopEnding : List ℕ → Ending → Type 0
IsStopEnding bytes (ending.Refused refusal) = IsRefusal bytes refusal
IsStopEnding bytes ending.Memory = Unit {0}
IsStopEnding bytes _ = ⊥

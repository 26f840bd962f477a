-- The lines on standard error.
use Rattle.std.specs.Prelude.{◌≡◌, ℕ, ◌⊎◌, List, [], ◌++◌, take, Option, IsSomeAnd, codes, decimal}
use Rattle.io_edge.specs.Put.{Appends}
use Rattle.c_tokens.specs.declared.lexical.LexCause.{LexCause}
use Rattle.c_tokens.specs.declared.lexical.LexCause.TheVariants as cause
use Rattle.c_tokens.specs.declared.span.Place.{Place}
use Rattle.ms2_top.specs.declared.ending.Ending.{Ending}
use Rattle.ms2_top.specs.declared.ending.Ending.TheVariants as ending
use Rattle.ms2_top.specs.declared.ending.Refusal.{Refusal}
use Rattle.ms2_top.specs.declared.ending.Reason.{Reason}
use Rattle.ms2_top.specs.declared.ending.Reason.TheVariants.{Lex, Syntax, TooDeep, NotBuilt}
use Rattle.ms2_top.specs.declared.status.Status.{Status}
use Rattle.ms2_top.specs.declared.status.Status.TheVariants as status
use Rattle.ms2_top.specs.Endings.{IsLimited, IsRefusal}
use Rattle.ms2_top.specs.Runs.{AreBytes}

-- ---- the lines

abbrev pub usage_line : List ℕ
usage_line = codes "usage: ms2 FILE\n"

abbrev pub read_line : List ℕ → List ℕ
read_line name = codes "ms2: cannot read " ++ name ++ codes "\n"

abbrev pub write_line : List ℕ
write_line = codes "ms2: cannot write\n"

abbrev pub memory_line : List ℕ
memory_line = codes "ms2: no memory\n"

abbrev pub limit_line : List ℕ → List ℕ
limit_line name = name ++ codes ": too large\n"

abbrev pub text_limit_line : List ℕ
text_limit_line = codes "ms2: text too large\n"

abbrev pub cause_text : LexCause → List ℕ
cause_text cause.StrayByte = codes "lex StrayByte"
cause_text cause.OpenComment = codes "lex OpenComment"
cause_text cause.OpenLiteral = codes "lex OpenLiteral"
cause_text cause.BadEscape = codes "lex BadEscape"
cause_text cause.EmptyChar = codes "lex EmptyChar"
cause_text cause.BadNumber = codes "lex BadNumber"
cause_text cause.LongWord = codes "lex LongWord"
cause_text cause.LongLiteral = codes "lex LongLiteral"
cause_text cause.Directive = codes "lex Directive"
cause_text cause.BadMark = codes "lex BadMark"

abbrev pub reason_text : Reason → List ℕ
reason_text (Lex cause) = cause_text cause
reason_text Syntax = codes "syntax"
reason_text TooDeep = codes "too deep"
reason_text NotBuilt = codes "not built"

-- the file, the texts of the line and the column, and the reason
abbrev pub refusal_text : List ℕ → List ℕ → List ℕ → List ℕ → List ℕ
refusal_text name line column reason = name ++ codes ":" ++ line ++ codes ":" ++ column ++ codes ": " ++ reason ++ codes "\n"

abbrev pub refusal_line : List ℕ → Place → Reason → List ℕ
refusal_line name place reason = refusal_text name (decimal place.line) (decimal place.column) (reason_text reason)

-- the line of an ending
abbrev pub message : List ℕ → Ending → List ℕ
message name ending.Done = []
message name (ending.Refused refusal) = refusal_line name refusal.place refusal.reason
message name ending.Read = read_line name
message name ending.Write = write_line
message name ending.Memory = memory_line
message name ending.FileTooLarge = limit_line name
message name ending.TextTooLarge = text_limit_line

-- ---- the line of a status

-- A line of a file that is refused: the bytes are those that the shelf tells, where it tells them.
pub record IsRefusalLine (name : List ℕ) (told : Option (Option (List ℕ))) (line : List ℕ) : Type 0 where
  pub bytes : List ℕ
  pub is_told : AreBytes told bytes
  pub refusal : Refusal
  pub refused : IsRefusal bytes refusal
  pub is_line : line ≡ refusal_line name refusal.place refusal.reason

-- the line of a file that is too large, or of a text
abbrev pub IsLimitLine : List ℕ → Option (Option (List ℕ)) → List ℕ → Type 0
IsLimitLine name told line = ((line ≡ limit_line name) × IsLimited told ending.FileTooLarge) ⊎ ((line ≡ text_limit_line) × IsLimited told ending.TextTooLarge)

-- The line of each status: `word` names the file, of which the shelf tells `told`. Done has none.
abbrev pub IsLine : Option (List ℕ) → Option (Option (List ℕ)) → Status → List ℕ → Type 0
IsLine word told status.Done line = line ≡ []
IsLine word told status.Refused line = IsSomeAnd word (λ name. IsRefusalLine name told line)
IsLine word told status.Usage line = line ≡ usage_line
IsLine word told status.Read line = IsSomeAnd word (λ name. line ≡ read_line name)
IsLine word told status.Write line = line ≡ write_line
IsLine word told status.Memory line = line ≡ memory_line
IsLine word told status.Limit line = IsSomeAnd word (λ name. IsLimitLine name told line)

-- ---- what the sink gained

-- a sink that told its bytes tells the same bytes with a front of the line after them
abbrev pub HasFront : Option (List ℕ) → List ℕ → Option (List ℕ) → Type 0
HasFront old line new = (n : ℕ) × Appends old (take n line) new

-- The sink gained the line of the status; a front of it only after a fault.
pub record Says (word : Option (List ℕ)) (told : Option (Option (List ℕ))) (answer : Status) (Fault : Type 0) (old new : Option (List ℕ)) : Type 0 where
  pub line : List ℕ
  pub is_line : IsLine word told answer line
  pub sent : Appends old line new ⊎ (Fault × HasFront old line new)

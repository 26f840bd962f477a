-- Loops of the grammar that may go on for so many turns.
use Rattle.std.specs.Prelude.{ℕ, Ok}
use Rattle.c_tokens.specs.declared.class.Class.{Class}
use Rattle.c_forms.specs.declared.pieces.Sort.{Sort}
use Rattle.c_forms.specs.declared.pieces.Repetition.{Repetition}
use Rattle.c_reader.specs.Readers.{Reader, Found, Outcome, Input, and_then, loop, turn_while}
use Rattle.c_syntax.specs.Grammar.{Standing, turn}
use Rattle.c_syntax.specs.Reading.{Gathered, goes, separated, separator_of, element_after, ended_turn}
use Rattle.table_parser.specs.Nests.{read}

-- the elements after these
unfoldable pub others_from : ℕ → Repetition → Sort → Reader Found → ℕ → Gathered → Input → Outcome Gathered
others_from d r due element n g i = loop n (λ g j. read d (turn_while (goes r due) (λ _ g. separated (separator_of r) (element_after element g)) g) j) g i

-- and those of a list that may end in its separator
unfoldable pub ended_from : ℕ → Class → Class → Reader Found → ℕ → Gathered → Input → Outcome Gathered
ended_from d separator end_token element n g i = loop n (λ g j. read d (ended_turn separator end_token element g) j) g i

-- and what goes on with these
unfoldable pub climbed_from : ℕ → Sort → ℕ → ℕ → ℕ → Standing → Input → Outcome Found
climbed_from d due least start n y i = and_then (loop n (λ y j. read d (turn due least start y) j) y i) (λ z j. Ok (z.found, j))

-- What a cursor over tokens shows.
use Rattle.std.specs.Prelude.{◌≤◌, ◌<◌, ◌^◌, ◌-◌, List, length, map}
use Rattle.c_tokens.specs.declared.token.Token.{Token}
use Rattle.c_tokens.specs.declared.token.Shape.{Shape}
use Rattle.scope_tables.specs.Frames.{Frame}
use Rattle.c_reader.specs.States as states
use Rattle.c_reader.specs.States.{State}
use Rattle.c_reader.specs.Tokens.{spot}
use Rattle.c_reader.specs.Readers.{Input, next, change}
use Rattle.table_parser.specs.declared.cursor.Cursor.TheInside.{Inside}
use Rattle.table_parser.specs.declared.cursor.Seen.{Seen}

-- tokens that are left with what is known there, and the scopes before the first of them
pub record Progress : Type 0 where
  pub input : Input
  pub before : List Frame

abbrev pub shape_of : Token → Shape
shape_of t = t.shape

abbrev pub progress_of : Inside → Progress
progress_of c = record {
  input = record { tokens = map shape_of c.tokens.now; at = spot c.at c.attempt.state };
  before = c.attempt.before;
}

-- places are numbers of 32 bits, and so is the one after the last token
abbrev pub IsShort : Inside → Type 0
IsShort c = (length c.tokens.now < 2 ^ 32 - 1) × (c.at ≤ length c.tokens.now)

abbrev pub seen : Seen → states.Seen
seen x = record { shape = x.shape; class = x.class }

abbrev pub onward : Progress → Progress
onward p = record p { input = next p.input }

abbrev pub changed : (State → State) → Progress → Progress
changed f p = record p { input = change f p.input }

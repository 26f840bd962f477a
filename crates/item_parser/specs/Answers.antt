-- What reading an item answers.
use Rattle.std.specs.Prelude.{◌≡◌, ◌≢◌, ℕ, List, Result, Ok, Err, map}
use Rattle.c_tokens.specs.declared.token.Token.{Token}
use Rattle.c_tokens.specs.declared.token.Shape.{Shape}
use Rattle.c_forms.specs.Forests.{Plain}
use Rattle.scope_tables.specs.Frames.{Frame}
use Rattle.c_reader.specs.declared.refusal.Refusal.{Refusal}
use Rattle.c_reader.specs.declared.refusal.Refusal.TheVariants.{Memory}
use Rattle.c_reader.specs.Laws.{from}
use Rattle.c_reader.specs.Readers.{Input, Outcome, Found, read}
use Rattle.c_syntax.specs.Grammar.{body, item_reader}
use Rattle.scopes.specs.Events.{events}
use Rattle.scopes.specs.Settling.{Scoped, settled}
use Rattle.draft_trees.specs.Placing.{placed}
use Rattle.item_parser.specs.Readings.{Reading, start}
use Rattle.table_parser.specs.Cursors.{shape_of}

-- the events of an item hold in these scopes
abbrev pub Settles : List Frame → Plain → Type 0
Settles frames item = (after : List Frame) × (settled (events item) frames ≡ Scoped after)

-- It is the item that the tokens from a place on spell within the limit, with its spans in bytes, and the place after it.
-- What it asks of words and declares, in source order, holds in the scopes (6.1.2.1 and 6.5.6).
pub record IsNext (tokens : List Token) (frames : List Frame) (at : ℕ) (answer : Plain × ℕ) : Type 0 where
  pub item : Plain
  pub reading : Reading 1000 frames (map shape_of tokens) at item answer.1
  pub is_placed : answer.0 ≡ placed tokens item
  pub is_settled : Settles frames answer.0

-- it is answered, unless memory was lacking
abbrev pub Gives : {A : Type 0} → A → Result A Refusal → Type 0
Gives a (Ok answer) = answer ≡ a
Gives a (Err e) = e ≡ Memory

-- ---- the reader of the grammar

-- what it answers for the tokens from a place on, within the limit
abbrev pub answer_of : List Frame → List Shape → ℕ → Outcome Found
answer_of frames w at = read body 1000 item_reader (from w (start frames at))

-- what a function answers that gives the place after it too
abbrev pub Finds : Outcome Found → Result (Found × ℕ) Refusal → Type 0
Finds outcome (Ok found) = (after : Input) × ((outcome ≡ Ok (found.0, after)) × (found.1 ≡ after.at.place))
Finds outcome (Err e) = e ≢ Memory → outcome ≡ Err e

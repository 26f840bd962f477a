-- Tokens, places among them, and what is known there.
use Rattle.std.specs.Prelude.{◌≡◌, ◌≤◌, ℕ, ◌+◌, List, slice_index_or}
use Rattle.c_tokens.specs.declared.token.Shape.{Shape}
use Rattle.c_tokens.specs.declared.token.Shape.TheVariants as shape
use Rattle.c_reader.specs.States.{State, Seen, seen, class}

-- a place among tokens, by the number of the token there, and what is known there
pub record Spot : Type 0 where
  pub place : ℕ
  pub state : State

abbrev pub spot : ℕ → State → Spot
spot place state = record { place = place; state = state }

abbrev pub step : Spot → Spot
step i = spot (i.place + 1) i.state

abbrev pub turned : (State → State) → Spot → Spot
turned f i = spot i.place (f i.state)

-- after the last token the source ends
abbrev pub raw_at : List Shape → ℕ → Shape
raw_at w place = slice_index_or w place shape.End

abbrev pub seen_at : List Shape → Spot → Seen
seen_at w i = seen i.state (raw_at w i.place)

abbrev pub class_at : List Shape → Spot → ℕ
class_at w i = class i.state (raw_at w i.place)

-- the same tokens through a place
abbrev pub Agree : ℕ → List Shape → List Shape → Type 0
Agree k w v = (place : ℕ) → place ≤ k → raw_at w place ≡ raw_at v place

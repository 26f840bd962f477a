-- Items that tokens spell under scopes, and tokens at which no source has one.
use Rattle.std.specs.Prelude.{◌≤◌, ◌<◌, ℕ, List}
use Rattle.c_tokens.specs.declared.token.Shape.{Shape}
use Rattle.c_forms.specs.declared.pieces.Sort.TheVariants as sort
use Rattle.c_forms.specs.Forests.{Plain}
use Rattle.scope_tables.specs.Frames.{Frame}
use Rattle.c_reader.specs.States.{State}
use Rattle.c_reader.specs.Tokens.{Spot, Agree, spot}
use Rattle.c_syntax.specs.Spells.{Spells}
use Rattle.reader_states.specs.Attempts.{begun}

-- before the first token of an item: no declaration stands there
abbrev pub start : List Frame → ℕ → Spot
start frames at = spot at (begun frames).state

-- Under these scopes the tokens from one place to another spell the item, with so much depth.
pub record Reading (depth : ℕ) (frames : List Frame) (tokens : List Shape) (at : ℕ) (item : Plain) (end : ℕ) : Type 0 where
  pub after : State
  pub spelled : Spells depth tokens sort.Item 0 item (start frames at) (spot end after)

-- no tokens that are the same through place k have a reading, of any depth
abbrev pub Dead : List Frame → List Shape → ℕ → ℕ → Type 0
Dead frames tokens at k = (others : List Shape) → Agree k tokens others → (depth : ℕ) (item : Plain) (end : ℕ) → Reading depth frames others at item end → ⊥

-- none has a reading within the limit
abbrev pub DeepDead : ℕ → List Frame → List Shape → ℕ → ℕ → Type 0
DeepDead limit frames tokens at k = (others : List Shape) → Agree k tokens others → (depth : ℕ) (item : Plain) (end : ℕ) → depth ≤ limit → Reading depth frames others at item end → ⊥

-- ---- the first place

-- some tokens that are the same through place k have a reading, of some depth
pub record Live (frames : List Frame) (tokens : List Shape) (at k : ℕ) : Type 0 where
  pub others : List Shape
  pub agrees : Agree k tokens others
  pub depth : ℕ
  pub item : Plain
  pub end : ℕ
  pub reading : Reading depth frames others at item end

-- place k is the first of the item that no source has
abbrev pub IsFirstDead : List Frame → List Shape → ℕ → ℕ → Type 0
IsFirstDead frames tokens at k = Dead frames tokens at k × ((p : ℕ) → at ≤ p → p < k → Live frames tokens at p)

-- some source has place k, and none within the limit
abbrev pub IsTooDeep : ℕ → List Frame → List Shape → ℕ → ℕ → Type 0
IsTooDeep limit frames tokens at k = DeepDead limit frames tokens at k × Live frames tokens at k

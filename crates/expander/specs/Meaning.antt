-- The items of a source.
use Rattle.std.specs.Prelude.{◌≡◌, ◌≢◌, ℕ, Bool, true, false, List, [], ◌∷◌, ◌++◌, map, if◌then◌else◌, slice_index_or}
use Rattle.c_tokens.specs.declared.span.Span.{Span}
use Rattle.c_tokens.specs.declared.token.Token.{Token}
use Rattle.c_tokens.specs.declared.token.Shape.{Shape}
use Rattle.c_tokens.specs.declared.token.Shape.TheVariants as shape
use Rattle.c_tokens.specs.declared.token.Mark.TheVariants as mark
use Rattle.c_tokens.specs.Tokens.{token_at as a_token}
use Rattle.c_forms.specs.Forests.{Plain}
use Rattle.c_reader.specs.declared.refusal.Refusal.{Refusal}
use Rattle.c_reader.specs.declared.refusal.Refusal.TheVariants as refusal
use Rattle.scope_tables.specs.Frames.{Frame}
use Rattle.scopes.specs.Events.{events}
use Rattle.scopes.specs.Settling.{Scoped, settled}
use Rattle.draft_trees.specs.Placing.{placed}
use Rattle.table_parser.specs.Cursors.{shape_of}
use Rattle.item_parser.specs.Readings.{Reading, IsFirstDead, IsTooDeep}
use Rattle.expander.specs.declared.stop.Stop.{Stop}
use Rattle.expander.specs.declared.stop.Stop.TheVariants.{Syntax, TooDeep, NotBuilt, Memory}

-- the greatest depth of an item
abbrev pub limit : ℕ
limit = 1000

-- ---- tokens

-- after the last token stands the end of the source
abbrev pub token_at : List Token → ℕ → Token
token_at w k = slice_index_or w k (a_token shape.End 0 0)

abbrev pub shape_at : List Token → ℕ → Shape
shape_at w k = (token_at w k).shape

abbrev pub span_at : List Token → ℕ → Span
span_at w k = (token_at w k).span

-- a definition begins with it
abbrev pub is_definition : Shape → Bool
is_definition (shape.Mark mark.Syntax) = true
is_definition (shape.Mark mark.Meta) = true
is_definition _ = false

-- ---- what is read

-- what an item asks of words and declares holds in some scopes
abbrev pub Settles : List Frame → Plain → Type 0
Settles scopes t = (after : List Frame) × (settled (events t) scopes ≡ Scoped after)

-- An item (ISO/IEC 9899:1990, 6.7) that the tokens from one place to another spell under these scopes, within the limit,
-- with its spans in bytes, and the scopes after it.
pub record IsItem (w : List Token) (scopes : List Frame) (at : ℕ) (t : Plain) (end : ℕ) (after : List Frame) : Type 0 where
  pub read : Plain
  pub reading : Reading limit scopes (map shape_of w) at read end
  pub is_placed : t ≡ placed w read
  pub settles : settled (events t) scopes ≡ Scoped after

-- Items one after the other, from place i to place j, each under the scopes that those before it leave.
unfoldable pub Read : List Token → List Frame → List Plain → ℕ → ℕ → List Frame → Type 0
Read w scopes [] i j after = (i ≡ j) × (scopes ≡ after)
Read w scopes (t ∷ ts) i j after = (m : ℕ) × ((next : List Frame) × (IsItem w scopes i t m next × Read w next ts m j after))

-- the items of a whole source
pub record IsSource (w : List Token) (items : List Plain) : Type 0 where
  pub end : ℕ
  pub after : List Frame
  pub read : Read w ([] ∷ []) items 0 end after
  pub ends : shape_at w end ≡ shape.End

-- ---- the answers

-- the tokens are a source with these items, and with no others
pub record IsTranslation (w : List Token) (items : List Plain) : Type 0 where
  pub source : IsSource w items
  pub only : (others : List Plain) → IsSource w others → others ≡ items

-- the tokens are no source
abbrev pub HasNoItems : List Token → Type 0
HasNoItems w = (items : List Plain) → IsSource w items → ⊥

-- Why the next item is not read under these scopes, with the place of a token in bytes.
abbrev pub Refuses : List Token → List Frame → ℕ → Stop → Type 0
Refuses w scopes at (Syntax span) = (k : ℕ) × (IsFirstDead scopes (map shape_of w) at k × ((span ≡ span_at w k) × (is_definition (shape_at w at) ≡ false)))
Refuses w scopes at (TooDeep span) = (k : ℕ) × (IsTooDeep limit scopes (map shape_of w) at k × (span ≡ span_at w k))
Refuses w scopes at (NotBuilt span) = (is_definition (shape_at w at) ≡ true) × (span ≡ span_at w at)
Refuses w scopes at Memory = Unit {0}

-- Items are read up to a place that is not the end, and the next one is refused there.
pub record IsRefused (w : List Token) (stop : Stop) : Type 0 where
  pub items : List Plain
  pub at : ℕ
  pub scopes : List Frame
  pub read : Read w ([] ∷ []) items 0 at scopes
  pub more : shape_at w at ≢ shape.End
  pub refused : Refuses w scopes at stop

-- why the items are not all read
abbrev pub IsStop : List Token → Stop → Type 0
IsStop w Memory = Unit {0}
IsStop w stop = IsRefused w stop × HasNoItems w

-- ---- parts of the code

-- no item begins there
abbrev pub HasNoItem : List Token → List Frame → ℕ → Type 0
HasNoItem w scopes at = (t : Plain) (end : ℕ) (after : List Frame) → IsItem w scopes at t end after → ⊥

-- one item was read at a place and put after the others
pub record IsTaken (w : List Token) (scopes : List Frame) (written : List Plain) (at : ℕ) (new_scopes : List Frame) (new_written : List Plain) (end : ℕ) : Type 0 where
  pub item : Plain
  pub is_item : IsItem w scopes at item end new_scopes
  pub written_is : new_written ≡ written ++ item ∷ []
  pub only : (t : Plain) (place : ℕ) (after : List Frame) → IsItem w scopes at t place after → (t ≡ item) × (place ≡ end)

abbrev pub IsRefusal : List Token → List Frame → ℕ → Stop → Type 0
IsRefusal w scopes at Memory = Unit {0}
IsRefusal w scopes at stop = Refuses w scopes at stop × HasNoItem w scopes at

abbrev pub stop_at : List Token → ℕ → Refusal → Stop
stop_at w at (refusal.Syntax k) = if is_definition (shape_at w at) then NotBuilt (span_at w at) else Syntax (span_at w k)
stop_at w at (refusal.TooDeep k) = TooDeep (span_at w k)
stop_at w at refusal.Memory = Memory

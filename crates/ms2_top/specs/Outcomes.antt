-- What comes of the bytes of a source.
use Rattle.std.specs.Prelude.{◌≡◌, ◌<◌, ◌≤◌, ◌*◌, ℕ, List, [], ◌∷◌, flat_map, map, length, Ok}
use Rattle.c_tokens.specs.declared.token.Token.{Token}
use Rattle.c_tokens.specs.declared.lexical.Dialect.TheVariants.{C90}
use Rattle.c_tokens.specs.declared.lexical.LexCause.{LexCause}
use Rattle.c_tokens.specs.Tokens.{tokens_of, gained, bad}
use Rattle.c_forms.specs.Forests.{Plain, forest}
use Rattle.c_trees.specs.Counts.{high}
use Rattle.scopes.specs.Events.{events, in_order}
use Rattle.scopes.specs.Settling.{Scoped, settled}
use Rattle.c_layout.specs.Layout.{layout}
use Rattle.c_layout.specs.Spelled.{tokens as tokens_in}
use Rattle.scope_tables.specs.Frames.{Frame}
use Rattle.text_tokens.specs.Items.{AreWrittenItems}
use Rattle.text_tokens.specs.Written.{HasTokens}
use Rattle.item_printer.specs.ReadAgain.{IsReadAgain}
use Rattle.c_text.specs.Text.{text as text_of_marks}
use Rattle.expander.specs.declared.stop.Stop.{Stop}
use Rattle.expander.specs.Meaning.{IsSource, IsStop}
use Rattle.ms2_top.specs.declared.source.Outcome.{Outcome}
use Rattle.ms2_top.specs.declared.source.Outcome.TheVariants.{Text, Lex, Stopped, TextTooLarge}

-- the most bytes of a file, and of a text
abbrev pub most_bytes : ℕ
most_bytes = 4194304

abbrev pub most_text_bytes : ℕ
most_text_bytes = 67108864

-- the texts of a source's words, constants and literals, in the order of first sight
abbrev pub texts_of : List ℕ → List (List ℕ)
texts_of bytes = gained C90 [] bytes

-- ---- a source and its text

-- the bytes are a source with these items
pub record IsSourceOf (bytes : List ℕ) (items : List Plain) : Type 0 where
  pub tokens : List Token
  pub lexed : tokens_of C90 (texts_of bytes) bytes ≡ Ok tokens
  pub read : IsSource tokens items

-- the text of items, each in its layout
abbrev pub written : List ℕ → List Plain → List ℕ
written bytes items = text_of_marks (texts_of bytes) (flat_map layout items)

-- the bytes are a source with these items, and with no others
pub record IsOnly (bytes : List ℕ) (items : List Plain) : Type 0 where
  pub source : IsSourceOf bytes items
  pub only : (others : List Plain) → IsSourceOf bytes others → others ≡ items

-- The text is that of the items of the source, which have neither calls nor placeholders. Its tokens are those of the items, with the
-- least parentheses, and spell these items again, spans aside, and no others, within 2,000 levels.
pub record IsTextOf (bytes text : List ℕ) : Type 0 where
  pub items : List Plain
  pub reading : IsOnly bytes items
  pub value : text ≡ written bytes items
  pub within : length text ≤ most_text_bytes
  pub plain : AreWrittenItems (texts_of bytes) items
  pub tokens : HasTokens (texts_of bytes) text (flat_map tokens_in items)
  pub after : List Frame
  pub again : IsReadAgain (texts_of bytes) text 2000 items after

-- The text of the items of the source has too many bytes.
pub record HasTooMuch (bytes : List ℕ) : Type 0 where
  pub items : List Plain
  pub reading : IsOnly bytes items
  pub large : most_text_bytes < length (written bytes items)

-- No items are a reading of the bytes.
abbrev pub HasNoReading : List ℕ → Type 0
HasNoReading bytes = (items : List Plain) → IsSourceOf bytes items → ⊥

-- the tokens are not all items
pub record IsStopOf (bytes : List ℕ) (stop : Stop) : Type 0 where
  pub tokens : List Token
  pub lexed : tokens_of C90 (texts_of bytes) bytes ≡ Ok tokens
  pub stopped : IsStop tokens stop
  pub none : HasNoReading bytes

-- the bytes have no tokens: they are spoiled at a place, for a cause
pub record IsNoToken (bytes : List ℕ) (at : ℕ) (cause : LexCause) : Type 0 where
  pub spoiled : tokens_of C90 (texts_of bytes) bytes ≡ bad at cause
  pub none : HasNoReading bytes

abbrev pub IsOutcome : List ℕ → Outcome → Type 0
IsOutcome bytes (Text text) = IsTextOf bytes text
IsOutcome bytes (Lex at cause) = IsNoToken bytes at cause
IsOutcome bytes (Stopped stop) = IsStopOf bytes stop
IsOutcome bytes TextTooLarge = HasTooMuch bytes

-- ---- parts of the code

-- what printing items says of their text
pub record IsPrintedText (names : List (List ℕ)) (items : List Plain) (text : List ℕ) : Type 0 where
  pub value : text ≡ text_of_marks names (flat_map layout items)
  pub within : length text ≤ most_text_bytes
  pub tokens : AreWrittenItems names items → HasTokens names text (flat_map tokens_in items)
  pub again : AreWrittenItems names items → (depth : ℕ) (after : List Frame) → 2 * high (forest items) ≤ depth → settled (in_order (map events items)) ([] ∷ []) ≡ Scoped after → IsReadAgain names text depth items after

abbrev pub IsPrinted : List (List ℕ) → List Plain → Outcome → Type 0
IsPrinted names items (Text text) = IsPrintedText names items text
IsPrinted names items TextTooLarge = most_text_bytes < length (text_of_marks names (flat_map layout items))
IsPrinted names items _ = ⊥

-- Items that are read from a text are written in the table that gained its words.
use Rattle.std.proofs.Common.{◌≡◌, refl, ◌∙◌, ℕ, true, List, map, Ok}
use Rattle.c_tokens.proofs.Tables.{and_true}
use Rattle.c_tokens.specs.declared.lexical.Dialect.TheVariants.{C90}
use Rattle.c_tokens.specs.declared.span.Span.{Span}
use Rattle.c_tokens.specs.declared.token.Token.{Token}
use Rattle.c_tokens.specs.Tokens.{tokens_of, gained}
use Rattle.c_forms.specs.declared.pieces.Sort.TheVariants as sort
use Rattle.c_forms.specs.Forests.{Plain, Forest, empty, tree}
use Rattle.c_forms.specs.Measures.{is_plain}
use Rattle.c_forms.specs.Places.{stands}
use Rattle.c_reader.specs.Tokens.{spot}
use Rattle.c_trees.specs.Valid.{valid_tree}
use Rattle.c_trees.specs.Counts.{pure, pure_tree}
use Rattle.scope_tables.specs.Frames.{Frame}
use Rattle.spelled_trees.proofs.Low.{spelled_pure}
use Rattle.spelled_trees.proofs.Trees.{telling, spelled_item}
use Rattle.draft_trees.specs.Placing.{respanned, placed_span, placed}
use Rattle.draft_trees.proofs.Laws.{same_purity, same_validity}
use Rattle.table_parser.specs.Cursors.{shape_of}
use Rattle.item_parser.specs.Readings.{start, Reading}
use Rattle.ready_rows.specs.Printed.{IsItem}
use Rattle.text_tokens.specs.Written.{AreWritten, TreeIsWritten}
use Rattle.text_tokens.specs.Items.{IsWrittenItem}
use Rattle.text_tokens.proofs.Standing.{stands-is_c}
use Rattle.written_items.specs.Known.{AreKnown}
use Rattle.written_items.proofs.Lexed.{known_tokens}
use Rattle.written_items.proofs.Spelled.{spelled_known}
use Rattle.written_items.proofs.Written.{tree_written}

respanned_written : (names : List (List ℕ)) (g : Span → Span) (t : Forest) → AreWritten names t → AreWritten names (respanned g t)
respanned_written names g empty h = tt
respanned_written names g (tree f s ps rest) h = (h.0, (respanned_written names g ps h.1.0, respanned_written names g rest h.1.1))

module _ (w : List Token) (d : ℕ) (frames : List Frame) (at : ℕ) (t : Plain) (end : ℕ) (R : Reading d frames (map shape_of w) at t end) where
  read_stands : stands t.form sort.Item ≡ true
  read_stands = (telling d (map shape_of w)).stand sort.Item 0 t (start frames at) (spot end R.after) R.spelled

  read_valid : valid_tree t ≡ true
  read_valid = (spelled_item d (map shape_of w) 0 t (start frames at) (spot end R.after) R.spelled (record { untyped = refl; unsettled = refl; nameless = refl })).0

  read_pure : pure_tree t ≡ true
  read_pure = spelled_pure d (map shape_of w) sort.Item 0 t (start frames at) (spot end R.after) R.spelled

  -- What is read is an item that may be printed.
  pub read_item : IsItem (placed w t)
  read_item = record { stands = read_stands; valid = same_validity w t ∙ read_valid; pure = same_purity w t ∙ read_pure }

  known_written : (names : List (List ℕ)) → AreKnown names (map shape_of w) → TreeIsWritten names t
  known_written names A = tree_written names t (stands-is_c t.form sort.Item (and_true (is_plain t.form) (pure t.parts) read_pure).0 refl read_stands) read_valid read_pure
      (spelled_known names (map shape_of w) A d sort.Item 0 t (start frames at) (spot end R.after) R.spelled)

  -- Its words, constants and literals are spelled so in a table in which those of the tokens are.
  pub known_item : (names : List (List ℕ)) → AreKnown names (map shape_of w) → IsWrittenItem names (placed w t)
  known_item names A =
      let T = known_written names A in
      record { item = read_stands; valid = same_validity w t ∙ read_valid; pure = same_purity w t ∙ read_pure; written = (T.0, respanned_written names (placed_span w) t.parts T.1) }

  -- So they are in the table that gained the words of the text with these tokens.
  pub written_item : (names : List (List ℕ)) (bytes : List ℕ) → tokens_of C90 (gained C90 names bytes) bytes ≡ Ok w → IsWrittenItem (gained C90 names bytes) (placed w t)
  written_item names bytes e = known_item (gained C90 names bytes) (known_tokens names bytes w e)

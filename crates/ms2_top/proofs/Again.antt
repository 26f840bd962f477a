-- The items of a source may be printed, and are read again.
use Rattle.std.proofs.Common.{◌≡◌, sym, subst, ◌≤◌, ◌*◌, ℕ, max, List, [], ◌∷◌, map, Ok, arith}
use Rattle.c_tokens.specs.declared.token.Token.{Token}
use Rattle.c_tokens.specs.declared.lexical.Dialect.TheVariants.{C90}
use Rattle.c_tokens.specs.Tokens.{tokens_of, gained}
use Rattle.c_forms.specs.Forests.{Plain, forest}
use Rattle.c_trees.specs.Counts.{high, high_tree}
use Rattle.scope_tables.specs.Frames.{Frame}
use Rattle.draft_trees.proofs.Laws.{same_height}
use Rattle.table_parser.specs.Cursors.{shape_of}
use Rattle.item_parser.proofs.Answered.{is_right}
use Rattle.text_tokens.specs.Items.{IsWrittenItem, AreWrittenItems}
use Rattle.written_items.proofs.Items.{written_item}
use Rattle.expander.specs.Meaning.{IsItem, Read}

module _ (bytes : List ℕ) (w : List Token) (lexed : tokens_of C90 (gained C90 [] bytes) bytes ≡ Ok w) where
  one_written : (fs : List Frame) (at : ℕ) (t : Plain) (end : ℕ) (gs : List Frame) → IsItem w fs at t end gs → IsWrittenItem (gained C90 [] bytes) t
  one_written fs at t end gs I = subst (IsWrittenItem (gained C90 [] bytes)) (sym I.is_placed) (written_item w 1000 fs at I.read end I.reading [] bytes lexed)

  pub all_written : (fs : List Frame) (ts : List Plain) (i j : ℕ) (gs : List Frame) → Read w fs ts i j gs → AreWrittenItems (gained C90 [] bytes) ts
  unfolding Read
  all_written fs [] i j gs R = tt
  all_written fs (t ∷ ts) i j gs R = (one_written fs i t R.0 R.1.0 R.1.1.0, all_written R.1.0 ts R.0 j gs R.1.1.1)

one_low : (w : List Token) (fs : List Frame) (at : ℕ) (t : Plain) (end : ℕ) (gs : List Frame) → IsItem w fs at t end gs → high_tree t ≤ 1000
one_low w fs at t end gs I =
    let low : high_tree I.read ≤ 1000 = (is_right fs (map shape_of w) at I.read end I.reading).low in
    subst (λ t. high_tree t ≤ 1000) (sym I.is_placed) (subst (λ n. n ≤ 1000) (sym (same_height w I.read)) low)

both_low : (a b n : ℕ) → a ≤ n → b ≤ n → max a b ≤ n
both_low a b n h k = omega (arith, h, k)

all_low : (w : List Token) (fs : List Frame) (ts : List Plain) (i j : ℕ) (gs : List Frame) → Read w fs ts i j gs → high (forest ts) ≤ 1000
unfolding Read
all_low w fs [] i j gs R = omega arith
all_low w fs (t ∷ ts) i j gs R = both_low (high_tree t) (high (forest ts)) 1000 (one_low w fs i t R.0 R.1.0 R.1.1.0) (all_low w R.1.0 ts R.0 j gs R.1.1.1)

-- twice as many levels as items of a source are high
pub twice_low : (w : List Token) (fs : List Frame) (ts : List Plain) (i j : ℕ) (gs : List Frame) → Read w fs ts i j gs → 2 * high (forest ts) ≤ 2000
twice_low w fs ts i j gs R = omega (arith, all_low w fs ts i j gs R)

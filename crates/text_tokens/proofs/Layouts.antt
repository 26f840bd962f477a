-- The text of a layout has the tokens that the table says of the tree.
use Rattle.std.proofs.Common.{◌≡◌, refl, ap, ◌∙◌, ℕ, true, bytes_eq, List, [], ◌∷◌, ◌++◌, subst}
use Rattle.std.specs.List.{IsDistinct}
use Rattle.std.specs.Prelude.{flat_map}
use Rattle.c_tokens.proofs.Tables.{and_true}
use Rattle.c_forms.specs.declared.pieces.Sort.TheVariants.{Item}
use Rattle.c_forms.specs.Forests.{Plain}
use Rattle.c_forms.specs.Measures.{is_plain}
use Rattle.c_trees.specs.Valid.{valid_tree}
use Rattle.c_trees.specs.Counts.{pure, pure_tree}
use Rattle.c_layout.specs.declared.marks.Mark.{Mark}
use Rattle.c_layout.specs.declared.marks.Mark.TheVariants as mark
use Rattle.c_layout.specs.Layout.{layout}
use Rattle.c_layout.specs.Spelled.{tokens, tokens_among}
use Rattle.c_layout.proofs.Tokens.{tokens_after}
use Rattle.c_text.specs.Text.{text}
use Rattle.text_tokens.specs.Plain.{is_c}
use Rattle.text_tokens.specs.Written.{AllWritten, HasTokens, TreeIsWritten}
use Rattle.text_tokens.specs.Items.{IsWrittenItem, AreWrittenItems}
use Rattle.text_tokens.specs.Marks.{All, IsWrittenMark}
use Rattle.text_tokens.proofs.Marks.{layout-all}
use Rattle.text_tokens.proofs.Prefixes.{IsNoEqualPrefix, layout-no_equal_prefix}
use Rattle.text_tokens.proofs.Cuts.{Clean, none, both, clean_free}
use Rattle.text_tokens.proofs.Close.{free-tokens}
use Rattle.text_tokens.proofs.Standing.{stands-is_c}
use Rattle.text_tokens.proofs.Free.{layout-clean, layout-free}
use Rattle.text_tokens.proofs.Words.{tree-written}

all_written : (names : List (List ℕ)) (ms : List Mark) → All (IsWrittenMark names) ms → AllWritten names ms
all_written names [] h = tt
all_written names (mark.Line depth ∷ ms) h = all_written names ms h.1
all_written names (mark.Token a u ∷ ms) h = (h.0, all_written names ms h.1)

-- The words, constants and literals of a valid tree of plain C are written, so the tokens of its layout are.
layout_marks : (names : List (List ℕ)) (t : Plain) → is_c t.form ≡ true → valid_tree t ≡ true → pure_tree t ≡ true → TreeIsWritten names t → All (IsWrittenMark names) (layout t)
layout_marks names t c v p w =
    let rows = tree-written names t c v p w in
    layout-all (IsWrittenMark names) (record { lines = λ depth. tt; opening = tt; closing = tt }) t rows.0 rows.1

pub layout-written : (names : List (List ℕ)) (t : Plain) → is_c t.form ≡ true → valid_tree t ≡ true → pure_tree t ≡ true → TreeIsWritten names t → AllWritten names (layout t)
layout-written names t c v p w = all_written names (layout t) (layout_marks names t c v p w)

-- The text of its layout has the tokens of the tree.
pub layout-tokens : (names : List (List ℕ)) (t : Plain) → IsDistinct bytes_eq names → is_c t.form ≡ true → valid_tree t ≡ true → pure_tree t ≡ true → TreeIsWritten names t
    → HasTokens names (text names (layout t)) (tokens t)
layout-tokens names t d c v p w = subst (HasTokens names (text names (layout t))) (tokens_after [] t) (free-tokens names (layout t) d (layout-written names t c v p w) (layout-free t c v p))

item_is_c : (names : List (List ℕ)) (t : Plain) → IsWrittenItem names t → is_c t.form ≡ true
item_is_c names t h = stands-is_c t.form Item (and_true (is_plain t.form) (pure t.parts) h.pure).0 refl h.item

-- that of an item
pub item-tokens : (names : List (List ℕ)) (t : Plain) → IsDistinct bytes_eq names → IsWrittenItem names t → HasTokens names (text names (layout t)) (tokens t)
item-tokens names t d h = layout-tokens names t d (item_is_c names t h) h.valid h.pure h.written

-- ---- items one after the other

all_both : (P : Mark → Type 0) (a b : List Mark) → All P a → All P b → All P (a ++ b)
all_both P [] b h k = k
all_both P (m ∷ a) b h k = (h.0, all_both P a b h.1 k)

among_both : (a b : List Mark) → tokens_among (a ++ b) ≡ tokens_among a ++ tokens_among b
among_both [] b = refl
among_both (mark.Line depth ∷ a) b = among_both a b
among_both (mark.Token c u ∷ a) b = ap (λ l. c ∷ l) (among_both a b)

items_clean : (names : List (List ℕ)) (ts : List Plain) → AreWrittenItems names ts → Clean (flat_map layout ts)
items_clean names [] h = none
items_clean names (t ∷ ts) h = both (layout t) (flat_map layout ts) (layout-clean t (item_is_c names t h.0) h.0.valid h.0.pure) (items_clean names ts h.1)

items_marks : (names : List (List ℕ)) (ts : List Plain) → AreWrittenItems names ts → All (IsWrittenMark names) (flat_map layout ts)
items_marks names [] h = tt
items_marks names (t ∷ ts) h = all_both (IsWrittenMark names) (layout t) (flat_map layout ts) (layout_marks names t (item_is_c names t h.0) h.0.valid h.0.pure h.0.written) (items_marks names ts h.1)

items_no_equal_prefix : (ts : List Plain) → All IsNoEqualPrefix (flat_map layout ts)
items_no_equal_prefix [] = tt
items_no_equal_prefix (t ∷ ts) = all_both IsNoEqualPrefix (layout t) (flat_map layout ts) (layout-no_equal_prefix t) (items_no_equal_prefix ts)

items_among : (ts : List Plain) → tokens_among (flat_map layout ts) ≡ flat_map tokens ts
items_among [] = refl
items_among (t ∷ ts) = among_both (layout t) (flat_map layout ts) ∙ ap (λ l. l ++ tokens_among (flat_map layout ts)) (tokens_after [] t) ∙ ap (λ l. tokens t ++ l) (items_among ts)

-- The text of the layouts of items has the tokens of the items.
pub items-tokens : (names : List (List ℕ)) (ts : List Plain) → IsDistinct bytes_eq names → AreWrittenItems names ts → HasTokens names (text names (flat_map layout ts)) (flat_map tokens ts)
items-tokens names ts d h =
    let free = clean_free (flat_map layout ts) (items_clean names ts h) (items_no_equal_prefix ts) in
    subst (HasTokens names (text names (flat_map layout ts))) (items_among ts)
    (free-tokens names (flat_map layout ts) d (all_written names (flat_map layout ts) (items_marks names ts h)) free)

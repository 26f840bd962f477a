-- What spells a node by its row is read, and so is a word or a literal.
use Rattle.std.proofs.Common.{◌≡◌, refl, subst, ap, sym, ◌∙◌, ℕ, ◌+◌, ◌<◌, ◌≤◌, max, not, nat_lt, Bool, true, false, ◌||◌, ◌&&◌, List, [], ◌++◌, nat_eq, if◌then◌else◌, Option, Some, None, Ok, arith}
use Rattle.std.proofs.lemmas.Bool.{lt-ltb}
use borrow.Author.Tests.{ltb-true}
use Rattle.c_tokens.specs.declared.token.Word.{Word}
use Rattle.c_tokens.specs.declared.token.Shape.{Shape}
use Rattle.c_tokens.specs.declared.token.Shape.TheVariants as shape
use Rattle.c_forms.specs.declared.pieces.Sort.{Sort}
use Rattle.c_forms.specs.declared.pieces.Sort.TheVariants as s
use Rattle.c_forms.specs.declared.pieces.Event.TheVariants as event
use Rattle.c_forms.specs.declared.pieces.Piece.{Piece}
use Rattle.c_forms.specs.declared.forms.Form.{Form}
use Rattle.c_forms.specs.declared.forms.Form.TheVariants as form
use Rattle.c_forms.specs.Forests.{Plain}
use Rattle.c_forms.specs.Forests as forests
use Rattle.c_forms.specs.Measures.{pieces}
use Rattle.c_forms.specs.Sets.{Classes, within, goes_on}
use Rattle.c_reader.specs.States.{seen, is_type, word_class, happens, noted}
use Rattle.c_reader.specs.Tokens.{Spot, step, turned, raw_at, seen_at}
use Rattle.c_reader.specs.Readers.{Input, Reader, Found, Outcome, Body, read, and_then, pick, when}
use Rattle.c_reader.proofs.Local.{from}
use Rattle.c_reader.proofs.Sets.{both, within_lacks}
use Rattle.c_syntax.specs.Allowed.{places}
use Rattle.c_syntax.specs.Reading.{Listed, Parts, nothing, node, joined, height_over, called, parts_by, parts_of, is_starred, spanned, Usual, pieces_in, completed}
use Rattle.c_syntax.specs.Grammar.{charged, whole, leaf_if, is_word, is_value, identifier, declared_identifier, parameter_identifier, enumerator_identifier, literal}
use Rattle.c_syntax.specs.Spells.{Spelling, Matches, parts_spelled, Levels, IsNode, may_be, AnyWord, ValueWord, IsLiteral, after_name}
use Rattle.c_spelled.specs.Fitting.{reads, follows, fitting, is_leveled, is_typed_list, need, needs, bound, needs_so, begins_so, fits_so, is_balanced}
use Rattle.c_spelled.proofs.Off.{Off}
use Rattle.c_spelled.proofs.Begins.{AllBegin, choose_begin, row}
use Rattle.c_spelled.proofs.Groups.{Got}
use Rattle.c_spelled.proofs.Pieces.{AllRead, GotParts, pieces_read}
use Rattle.c_spelled.proofs.Rows.{has_row, rows}

pub off_within : (a b : Classes) (w : List Shape) (place : ℕ) → within a b ≡ true → Off b w place → Off a w place
off_within a b w place i o s = within_lacks a b _ i (o s)

-- what goes on with a tree of a sort without levels
pub one_set : (due : Sort) (least : ℕ) → has_row due ≡ true → is_leveled due ≡ false → goes_on due least ≡ goes_on due 0
one_set s.Exp least h l = absurd (cc l)
one_set s.Declarator least h l = absurd (cc l)
one_set s.AbstractDeclarator least h l = absurd (cc l)
one_set s.ParamDeclarator least h l = absurd (cc l)
one_set s.MemberName least h l = absurd (cc l)
one_set s.InnerDeclarator least h l = absurd (cc h)
one_set s.MetaExp least h l = absurd (cc h)
one_set _ least h l = refl

pub record Fits (due : Sort) (f : Form) : Type 0 where
  pub reads : reads due (pieces f) ≡ true
  pub fits : fitting due f (pieces f) ≡ true
  pub ends : within (follows due (pieces f)) (goes_on due 0) ≡ true
  pub few : (n : ℕ) → need due ≤ n + 1 → needs due (pieces f) ≤ bound (is_starred f) n

few_so : (b : Bool) (k m n : ℕ) → (if b then nat_lt k (places + 1) else nat_lt k m) ≡ true → m ≤ n + 1 → k ≤ bound b n
few_so true k m n h l = omega (arith, ltb-true k (places + 1) h)
few_so false k m n h l = omega (arith, ltb-true k m h, l)

skipped : (a b : Bool) → a ≡ false → (a || b) ≡ true → b ≡ true
skipped true b e h = absurd (cc e)
skipped false b e h = h

pub fits_of : (due : Sort) (f : Form) → has_row due ≡ true → is_leveled due ≡ false → is_typed_list f ≡ false → may_be due f ≡ true → Fits due f
fits_of due f h l t m = let k' = both (begins_so due f && is_balanced 0 (pieces f)) _ (rows due f h m) in let g : begins_so due f ≡ true = (both (begins_so due f) _ k'.0).0 in
    let a = both (fits_so due f) _ (skipped (is_typed_list f) (fits_so due f && needs_so due f) t (skipped (is_leveled due) _ l k'.1)) in
    let e = both (fitting due f (pieces f)) _ a.0 in
    record { reads = (row due f g).reads; fits = e.0; ends = e.1; few = λ n low. few_so (is_starred f) (needs due (pieces f)) (need due) n a.1 low }

abbrev pub Room : Type 0 → ℕ → ℕ → Type 0
Room levels d top = levels → (0 < d) × (0 < top)

pub same_got : (top : ℕ) (w : List Shape) (t u : Plain) (j : Spot) (o q : Outcome Found) → o ≡ q → t ≡ u → Got q top u w j → Got o top t w j
same_got top w t u j o q e f G = record { height = G.height; low = G.low; reads = e ∙ G.reads ∙ ap (λ t. Ok (record { tree = t; height = G.height }, from w j)) (sym f) }

module _ (body : Body) (d top : ℕ) (w : List Shape) (levels : Type 0) (room : Room levels d top) (n : ℕ) (deeper inner : Spelling) (part : Parts)
    (DB : AllBegin w deeper) (IB : AllBegin w inner) (DE : AllRead body d top w places deeper called) (IE : AllRead body d top w n inner part) where
  parts_read : (b : Bool) → AllRead body d top w (bound b n) (parts_spelled b deeper inner) (parts_by b part)
  parts_read true = DE
  parts_read false = IE

  abbrev pub Parts_match : Sort → Form → List Piece → List Plain → Spot → Spot → Type 0
  Parts_match own f ps ts i j = Matches (parts_spelled (is_starred f) deeper inner) w own f Usual ps ts i j

  pub the_parts : (own : Sort) (f : Form) (ps : List Piece) (ts : List Plain) (i j : Spot) → reads own ps ≡ true → needs own ps ≤ bound (is_starred f) n → fitting own f ps ≡ true → Off (follows own ps) w j.place
      → Parts_match own f ps ts i j → GotParts (read body d (pieces_in (parts_of f part) own f Usual ps) (from w i)) top ts w j
  the_parts own f ps ts i j R N F o M = pieces_read body d top w (bound (is_starred f) n) (parts_spelled (is_starred f) deeper inner) (parts_by (is_starred f) part) (choose_begin (is_starred f) w deeper inner DB IB) (parts_read (is_starred f)) own f Usual ps ts i j R N F o M

  pub over_low : (b : Bool) (n : ℕ) → Levels b levels → n ≤ top → height_over b n ≤ top
  over_low true n l low = let k = room l in omega (arith, low, k.1)
  over_low false n l low = low

  pub charged_read : (b : Bool) (r : Reader Found) (i : Input) → Levels b levels → read body d (charged b r) i ≡ read body d r i
  charged_read true r i l = ap (λ b. when b (read body d r i) i.at.place) (lt-ltb 0 d (room l).0)
  charged_read false r i l = refl

  pub complete_node : (own : Sort) (f : Form) (start : ℕ) (done : Listed) (ps : List Piece) (ts : List Plain) (i j : Spot) → Levels (is_starred f) levels → done.height ≤ top
      → GotParts (read body d (pieces_in (parts_of f part) own f Usual ps) (from w i)) top ts w j
      → Got (read body d (completed (parts_of f part) own f start done ps) (from w i)) top (forests.node f (spanned start j.place) (done.trees ++ ts)) w j
  unfolding completed
  complete_node own f start done ps ts i j l low G = record {
    height = height_over (is_starred f) (max done.height G.height);
    low = over_low (is_starred f) (max done.height G.height) l (omega (arith, low, G.low));
    reads = ap (λ o. and_then o (λ g j. Ok (node f start j.at.place (joined done g), j))) G.reads;
  }

  pub whole_read : (own : Sort) (f : Form) (ts : List Plain) (i j : Spot) → Levels (is_starred f) levels → reads own (pieces f) ≡ true → needs own (pieces f) ≤ bound (is_starred f) n → fitting own f (pieces f) ≡ true → Off (follows own (pieces f)) w j.place
      → Parts_match own f (pieces f) ts i j → Got (read body d (whole part own f) (from w i)) top (forests.node f (spanned i.place j.place) ts) w j
  unfolding whole
  whole_read own f ts i j l R N F o M = same_got top w _ (forests.node f (spanned i.place j.place) ([] ++ ts)) j _ _
      (charged_read (is_starred f) (completed (parts_of f part) own f i.place nothing (pieces f)) (from w i) l) refl
      (complete_node own f i.place nothing (pieces f) ts i j l (omega arith) (the_parts own f (pieces f) ts i j R N F o M))

  pub node_read : (due : Sort) (least : ℕ) (t : Plain) (i j : Spot) → has_row due ≡ true → is_leveled due ≡ false → is_typed_list t.form ≡ false → need due ≤ n + 1 → IsNode levels deeper inner w due least t i j → Off (goes_on due least) w j.place
      → Got (read body d (whole part due t.form) (from w i)) top t w j
  node_read due least t i j h l y low N o = let F = fits_of due t.form h l y N.may in
      same_got top w t (forests.node t.form (spanned i.place j.place) N.parts) j _ _ refl N.value
      (whole_read due t.form N.parts i j N.left F.reads (F.few n low) F.fits (off_within (follows due (pieces t.form)) (goes_on due 0) w j.place F.ends (subst (λ a. Off a w j.place) (one_set due least h l) o)) N.matches)

  -- where only one form may stand
  pub only_read : (due : Sort) (f : Form) (least : ℕ) (t : Plain) (i j : Spot) → has_row due ≡ true → is_leveled due ≡ false → is_typed_list f ≡ false → need due ≤ n + 1 → t.form ≡ f → IsNode levels deeper inner w due least t i j → Off (goes_on due least) w j.place
      → Got (read body d (whole part due f) (from w i)) top t w j
  only_read due f least t i j h l y low e N o = same_got top w t t j _ _ (ap (λ f. read body d (whole part due f) (from w i)) (sym e)) refl (node_read due least t i j h l (ap is_typed_list e ∙ y) low N o)

-- ---- words and literals

module _ (body : Body) (d top : ℕ) (w : List Shape) where
  pub a_word : (word : Word) (b : Bool) → is_word (record { shape = shape.Word word; class = word_class b }) ≡ true
  a_word word true = refl
  a_word word false = refl

  any_pick : (t : Plain) (i k : Spot) → AnyWord w t i → pick (leaf_if (is_word (seen_at w i)) form.Id i.place (seen_at w i)) (from w k) ≡ Ok (record { tree = t; height = 0 }, from w (step k))
  any_pick t i k A = ap (λ x. pick (leaf_if (is_word (seen i.state x)) form.Id i.place (seen i.state x)) (from w k)) A.1.0
      ∙ ap (λ b. pick (leaf_if b form.Id i.place (seen i.state (shape.Word A.0))) (from w k)) (a_word A.0 (not i.state.kept.has_type && is_type i.state.entries A.0.0))
      ∙ ap (λ t. Ok (record { tree = t; height = 0 }, from w (step k))) (sym A.1.1)

  value_pick : (t : Plain) (i k : Spot) → ValueWord w t i → pick (leaf_if (is_value (seen_at w i)) form.Id i.place (seen_at w i)) (from w k) ≡ Ok (record { tree = t; height = 0 }, from w (step k))
  value_pick t i k A = ap (λ b. pick (leaf_if b form.Id i.place (seen_at w i)) (from w k)) (ap (λ n. nat_eq n (word_class false)) A.1 ∙ refl)
      ∙ ap (λ x. pick (leaf_if true form.Id i.place (seen i.state x)) (from w k)) A.0.1.0
      ∙ ap (λ t. Ok (record { tree = t; height = 0 }, from w (step k))) (sym A.0.1.1)

  at_spot : (t : Plain) (k j : Spot) → k ≡ j → (o : Outcome Found) → o ≡ Ok (record { tree = t; height = 0 }, from w k) → Got o top t w j
  at_spot t k j e o r = record { height = 0; low = omega arith; reads = r ∙ ap (λ k. Ok (record { tree = t; height = 0 }, from w k)) e }

  pub id_read : (t : Plain) (i j : Spot) → AnyWord w t i → step i ≡ j → Got (read body d identifier (from w i)) top t w j
  id_read t i j A e = at_spot t (step i) j e _ (any_pick t i i A)

  pub declared_read : (t : Plain) (i j : Spot) → ValueWord w t i → after_name w i ≡ j → Got (read body d declared_identifier (from w i)) top t w j
  declared_read t i j A e = at_spot t (after_name w i) j e _ (value_pick t i (turned (noted (raw_at w i.place)) i) A)

  pub parameter_read : (t : Plain) (i j : Spot) → ValueWord w t i → turned (happens event.DeclareValue) (after_name w i) ≡ j → Got (read body d parameter_identifier (from w i)) top t w j
  parameter_read t i j A e = at_spot t (turned (happens event.DeclareValue) (after_name w i)) j e _
      (ap (λ o. and_then o (λ x k. Ok (x, record k { at = turned (happens event.DeclareValue) k.at }))) (value_pick t i (turned (noted (raw_at w i.place)) i) A))

  pub enumerator_read : (t : Plain) (i j : Spot) → AnyWord w t i → after_name w i ≡ j → Got (read body d enumerator_identifier (from w i)) top t w j
  enumerator_read t i j A e = at_spot t (after_name w i) j e _ (any_pick t i (turned (noted (raw_at w i.place)) i) A)

  abbrev literal_of : Shape → ℕ → Option Found
  literal_of (shape.Str word) place = Some (node (form.Literal word) place (place + 1) nothing)
  literal_of _ place = None

  pub literal_read : (t : Plain) (i j : Spot) → IsLiteral w t i → step i ≡ j → Got (read body d literal (from w i)) top t w j
  literal_read t i j A e = at_spot t (step i) j e _ (ap (λ x. pick (literal_of x i.place) (from w i)) A.1.0 ∙ ap (λ t. Ok (record { tree = t; height = 0 }, from w (step i))) (sym A.1.1))

-- A node that was read by its row is spelled by it.
use Rattle.std.proofs.Common.{◌≡◌, refl, subst, ap, sym, ◌∙◌, ℕ, suc, ◌<◌, ◌≤◌, max, nat_lt, Bool, true, false, ◌&&◌, List, [], ◌∷◌, ◌++◌, Ok, arith}
use borrow.Author.Tests.{ltb-true, lt-ltb}
use Rattle.std.proofs.lemmas.Bool.{and_from}
use Rattle.c_tokens.specs.declared.token.Shape.{Shape}
use Rattle.c_tokens.specs.declared.span.Span.{Span}
use Rattle.c_forms.specs.declared.pieces.Sort.{Sort}
use Rattle.c_forms.specs.declared.pieces.Repetition.TheVariants.{Optional, Greedy, Due, All, Any, Many, Spliced, Ended}
use Rattle.c_forms.specs.declared.pieces.Piece.{Piece}
use Rattle.c_forms.specs.declared.pieces.Piece.TheVariants.{Token, Maybe, Own, TypeTokens, KindName, One, Group, Rest, Anything, Then}
use Rattle.c_forms.specs.declared.forms.Form.{Form}
use Rattle.c_forms.specs.Forests.{Plain}
use Rattle.c_forms.specs.Forests as forests
use Rattle.c_forms.specs.Measures.{level, pieces}
use Rattle.c_reader.specs.Tokens.{Spot, raw_at}
use Rattle.c_reader.specs.Readers.{Input, Found, read}
use Rattle.c_reader.proofs.Local.{from}
use Rattle.c_reader.proofs.Loops.{split, same_pair}
use Rattle.c_reader.proofs.Sets.{both}
use Rattle.c_syntax.specs.Reading.{Parts, parts_by, parts_of, Before, Usual, is_absent, before_by, inside, is_starred, spanned, Listed, nothing, one, joined, node, height_over, pieces_in, completed}
use Rattle.c_syntax.specs.Grammar.{body, whole, charged, after_first, after_part}
use Rattle.c_syntax.specs.Spells.{Spelling, Matches, parts_spelled, Levels, may_be, IsNode, At, InPlace}
use Rattle.c_syntax.proofs.Told.{levels, lower, In, some_level, Says, Calls, Inner, is_due, need, called_says, roomy}
use Rattle.c_syntax.proofs.Parts.{fine_first, fine_first_more, Holds, row_says}

-- ---- heights

height_up : (b : Bool) (h : ℕ) → h ≤ height_over b h
height_up true h = omega arith
height_up false h = omega arith

pub height_within : (b : Bool) (h d : ℕ) → (b ≡ true → 0 < d) → h ≤ d → height_over b h ≤ d
height_within true h d room le = omega (arith, room refl)
height_within false h d room le = le

pub level_left : (b : Bool) (h n : ℕ) → height_over b h ≤ n → Levels b (levels n)
level_left true h n le = some_level n (omega arith)
level_left false h n le = tt

-- ---- what stood before makes no difference

-- no part is due where the one before is absent
abbrev pub none_due : List Piece → Bool
none_due (Group Due due least ∷ ps) = false
none_due (Then e ∷ ps) = none_due ps
none_due _ = true

pub any_before : (P : Spelling) (w : List Shape) (own : Sort) (f : Form) (b c : Before) (ps : List Piece) (ts : List Plain) (i j : Spot) → none_due ps ≡ true → Matches P w own f b ps ts i j → Matches P w own f c ps ts i j
any_before P w own f b c [] ts i j e M = M
any_before P w own f b c (Token x ∷ ps) ts i j e M = M
any_before P w own f b c (Maybe x ∷ ps) ts i j e M = M
any_before P w own f b c (Own ∷ ps) ts i j e M = M
any_before P w own f b c (One due least ∷ ps) ts i j e M = M
any_before P w own f b c (Group Optional due least ∷ ps) ts i j e M = M
any_before P w own f b c (Group Greedy due least ∷ ps) ts i j e M = M
any_before P w own f b c (Group Due due least ∷ ps) ts i j e M = absurd (cc e)
any_before P w own f b c (Group All due least ∷ ps) ts i j e M = M
any_before P w own f b c (Group Any due least ∷ ps) ts i j e M = M
any_before P w own f b c (Group (Many x l) due least ∷ ps) ts i j e M = M
any_before P w own f b c (Group (Spliced x l) due least ∷ ps) ts i j e M = M
any_before P w own f b c (Group (Ended x y) due least ∷ ps) ts i j e M = M
any_before P w own f b c (Then x ∷ ps) ts i j e M = (M.0, any_before P w own f b c ps ts _ j e M.1)
any_before P w own f b c (TypeTokens ∷ ps) ts i j e M = M
any_before P w own f b c (KindName ∷ ps) ts i j e M = M
any_before P w own f b c (Rest due ∷ ps) ts i j e M = M
any_before P w own f b c (Anything ∷ ps) ts i j e M = M

-- ---- forms

-- A tree is a node of a form, spelled by its row.
pub record IsForm (w : List Shape) (own : Sort) (f : Form) (n k : ℕ) (t : Plain) (i j : Spot) : Type 0 where
  pub parts : List Plain
  pub value : t ≡ forests.node f (spanned i.place j.place) parts
  pub left : Levels (is_starred f) (levels n)
  pub matches : Matches (parts_spelled (is_starred f) (lower n w) (In k n w)) w own f Usual (pieces f) parts i j

-- its first parts
abbrev pub Begun : Form → List Plain → Plain → Type 0
Begun f first t = (ts : List Plain) × ((span : Span) × (t ≡ forests.node f span (first ++ ts)))

pub as_node : (w : List Shape) (own due : Sort) (least : ℕ) (f : Form) (n k : ℕ) (t : Plain) (i j : Spot)
    → ((ts : List Plain) → Matches (parts_spelled (is_starred f) (lower n w) (In k n w)) w own f Usual (pieces f) ts i j → Matches (parts_spelled (is_starred f) (lower n w) (In k n w)) w due f Usual (pieces f) ts i j)
    → may_be due f ≡ true → least ≤ level f → IsForm w own f n k t i j → IsNode (levels n) (lower n w) (In k n w) w due least t i j
as_node w own due least f n k t i j same may tight F = subst (λ t. IsNode (levels n) (lower n w) (In k n w) w due least t i j) (sym F.value)
    (record { parts = F.parts; value = refl; may = may; tight = tight; left = F.left; matches = same F.parts F.matches })

pub node_of : (w : List Shape) (due : Sort) (least : ℕ) (f : Form) (n k : ℕ) (t : Plain) (i j : Spot) → may_be due f ≡ true → least ≤ level f → IsForm w due f n k t i j → IsNode (levels n) (lower n w) (In k n w) w due least t i j
node_of w due least f n k t i j may tight F = as_node w due due least f n k t i j (λ ts M. M) may tight F

-- where a part of a sort and a level may be read: one that is called, or one in its place
abbrev pub ok : Bool → ℕ → Sort → ℕ → Bool
ok true k due least = is_due due least
ok false k due least = is_due due least && nat_lt (need due) (suc k)

pub ok_at : (k : ℕ) (due : Sort) (least : ℕ) → is_due due least ≡ true → need due ≤ k → ok false k due least ≡ true
ok_at k due least g le = and_from (is_due due least) (nat_lt (need due) (suc k)) g (lt-ltb (need due) (suc k) (omega arith))

ok_more : (b : Bool) (m k : ℕ) → m ≤ k → (due : Sort) (least : ℕ) → ok b m due least ≡ true → ok b k due least ≡ true
ok_more true m k le due least g = g
ok_more false m k le due least g = let o = both (is_due due least) (nat_lt (need due) (suc m)) g in
    and_from (is_due due least) (nat_lt (need due) (suc k)) o.0 (lt-ltb (need due) (suc k) (let z : need due < suc m = ltb-true (need due) (suc m) o.1 in omega arith))

module _ (d : ℕ) (w : List Shape) (E : Calls d w) (inner : Parts) (IS : Inner d w inner) where
  pub parts_say : (b : Bool) (k : ℕ) (due : Sort) (least : ℕ) (i : Spot) (x : Found) (p : Input) → ok b k due least ≡ true → read body d (parts_by b inner due least) (from w i) ≡ Ok (x, p)
      → Says d w (λ n. parts_spelled b (lower n w) (In k n w) due least) i x p
  parts_say true k due least i x p g h = called_says d w E due least i x p g h
  parts_say false k due least i x p g h = let o = both (is_due due least) (nat_lt (need due) (suc k)) g in
      IS k due least i x p o.0 (let z : need due < suc k = ltb-true (need due) (suc k) o.1 in omega arith) h

  -- the pieces that are left, after parts that were read
  pub completed_tells : (l k : ℕ) (small : l ≤ k) (own : Sort) (f : Form) (i m : Spot) (done : Listed) (ps : List Piece) (x : Found) (p : Input) → fine_first (ok (is_starred f) l) own ps ≡ true → Holds f ps (raw_at w m.place)
      → (is_starred f ≡ true → 0 < d) → done.height ≤ d
      → ((n : ℕ) → done.height ≤ n → (ts : List Plain) (j : Spot) → Matches (parts_spelled (is_starred f) (lower n w) (In k n w)) w own f Usual ps ts m j
      → Matches (parts_spelled (is_starred f) (lower n w) (In k n w)) w own f Usual (pieces f) (done.trees ++ ts) i j)
      → read body d (completed (parts_of f inner) own f i.place done ps) (from w m) ≡ Ok (x, p) → Says d w (λ n t i j. IsForm w own f n k t i j × Begun f done.trees t) i x p
  unfolding completed
  completed_tells l k small own f i m done ps x p F o room high front h =
      let a = split (read body d (pieces_in (parts_of f inner) own f Usual ps) (from w m)) (λ g j. Ok (node f i.place j.at.place (joined done g), j)) x p h in
      let S = row_says d w own f (parts_of f inner) (λ n. parts_spelled (is_starred f) (lower n w) (In k n w)) (ok (is_starred f) k) (parts_say (is_starred f) k) ps m a.value a.place (fine_first_more (ok (is_starred f) l) (ok (is_starred f) k) (ok_more (is_starred f) l k small) own ps F) o a.first in
      subst (λ (y : Found × Input). Says d w (λ n t i j. IsForm w own f n k t i j × Begun f done.trees t) i y.0 y.1) (same_pair (node f i.place a.place.at.place (joined done a.value)) x a.place p a.second) (record {
        place = S.place;
        placed = S.placed;
        high = height_within (is_starred f) (max done.height a.value.height) d room (omega (arith, S.high));
        spelled = λ n le. (
          record {
            parts = done.trees ++ a.value.trees;
            value = ap (λ q. forests.node f (spanned i.place q.at.place) (done.trees ++ a.value.trees)) S.placed;
            left = level_left (is_starred f) (max done.height a.value.height) n le;
            matches = front n (omega (arith, height_up (is_starred f) (max done.height a.value.height))) a.value.trees S.place (S.spelled n (omega (arith, height_up (is_starred f) (max done.height a.value.height))));
          },
          (a.value.trees, (spanned i.place a.place.at.place, refl)),
        );
      })

  pub completed_says : (l k : ℕ) (small : l ≤ k) (own : Sort) (f : Form) (i m : Spot) (done : Listed) (ps : List Piece) (x : Found) (p : Input) → fine_first (ok (is_starred f) l) own ps ≡ true → Holds f ps (raw_at w m.place)
      → (is_starred f ≡ true → 0 < d) → done.height ≤ d
      → ((n : ℕ) → done.height ≤ n → (ts : List Plain) (j : Spot) → Matches (parts_spelled (is_starred f) (lower n w) (In k n w)) w own f Usual ps ts m j
      → Matches (parts_spelled (is_starred f) (lower n w) (In k n w)) w own f Usual (pieces f) (done.trees ++ ts) i j)
      → read body d (completed (parts_of f inner) own f i.place done ps) (from w m) ≡ Ok (x, p) → Says d w (λ n t i j. IsForm w own f n k t i j) i x p
  completed_says l k small own f i m done ps x p F o room high front h = let S = completed_tells l k small own f i m done ps x p F o room high front h in
      record { place = S.place; placed = S.placed; high = S.high; spelled = λ n le. (S.spelled n le).0 }

  -- a whole node
  pub whole_says : (l k : ℕ) (small : l ≤ k) (own : Sort) (f : Form) (i : Spot) (x : Found) (p : Input) → fine_first (ok (is_starred f) l) own (pieces f) ≡ true → Holds f (pieces f) (raw_at w i.place)
      → read body d (whole inner own f) (from w i) ≡ Ok (x, p) → Says d w (λ n t i j. IsForm w own f n k t i j) i x p
  unfolding whole
  whole_says l k small own f i x p F o h = by_star (is_starred f) refl h
    where
      by_star : (b : Bool) → is_starred f ≡ b → read body d (charged b (completed (parts_of f inner) own f i.place nothing (pieces f))) (from w i) ≡ Ok (x, p) → Says d w (λ n t i j. IsForm w own f n k t i j) i x p
      by_star true e h = let v = roomy d 0 (nat_lt 0 d) (read body d (completed (parts_of f inner) own f i.place nothing (pieces f)) (from w i)) i.place x p refl h in
          completed_says l k small own f i i nothing (pieces f) x p F o (λ _. v.0) (omega arith) (λ n le ts j M. M) v.1
      by_star false e h = completed_says l k small own f i i nothing (pieces f) x p F o (λ y. absurd (let z : true ≡ false = sym y ∙ e in cc z)) (omega arith) (λ n le ts j M. M) h

  pub node_says : (l k : ℕ) (small : l ≤ k) (due : Sort) (least : ℕ) (f : Form) (i : Spot) (x : Found) (p : Input) → may_be due f ≡ true → least ≤ level f → fine_first (ok (is_starred f) l) due (pieces f) ≡ true → Holds f (pieces f) (raw_at w i.place)
      → read body d (whole inner due f) (from w i) ≡ Ok (x, p) → Says d w (λ n t i j. IsNode (levels n) (lower n w) (In k n w) w due least t i j) i x p
  node_says l k small due least f i x p may tight F o h = let S = whole_says l k small due f i x p F o h in
      record { place = S.place; placed = S.placed; high = S.high; spelled = λ n le. node_of w due least f n k x.tree i S.place may tight (S.spelled n le) }

  -- a first part, and the pieces after it
  pub after_says : (l k : ℕ) (small : l ≤ k) (own : Sort) (f : Form) (due : Sort) (least : ℕ) (i m : Spot) (y x : Found) (p : Input) → pieces f ≡ One due least ∷ after_first (pieces f) → fine_first (ok (is_starred f) l) own (after_first (pieces f)) ≡ true
      → none_due (after_first (pieces f)) ≡ true → Holds f (after_first (pieces f)) (raw_at w m.place) → (is_starred f ≡ true → 0 < d) → y.height ≤ d
      → ((n : ℕ) → y.height ≤ n → parts_spelled (is_starred f) (lower n w) (In k n w) (inside own due) least y.tree i m)
      → read body d (after_part inner own f i.place y) (from w m) ≡ Ok (x, p) → Says d w (λ n t i j. IsForm w own f n k t i j) i x p
  after_says l k small own f due least i m y x p e F none o room high P h = completed_says l k small own f i m (one y) (after_first (pieces f)) x p F o room high
      (λ n le ts j M. subst (λ q. Matches (parts_spelled (is_starred f) (lower n w) (In k n w)) w own f Usual q (y.tree ∷ ts) i j) (sym e)
      (record {
        first = y.tree;
        others = ts;
        place = m;
        value = refl;
        is_first = P n le;
        are_others = any_before (parts_spelled (is_starred f) (lower n w) (In k n w)) w own f Usual (before_by (is_absent y.tree)) (after_first (pieces f)) ts m j none M;
      })) h

-- ---- in place

pub at_in : (k n : ℕ) (w : List Shape) (due : Sort) (least : ℕ) (t : Plain) (i j : Spot) → At (levels n) (lower n w) (In k n w) w due least t i j → In (suc k) n w due least t i j
unfolding InPlace
at_in k n w due least t i j P = P

pub in_at : (k n : ℕ) (w : List Shape) (due : Sort) (least : ℕ) (t : Plain) (i j : Spot) → In (suc k) n w due least t i j → At (levels n) (lower n w) (In k n w) w due least t i j
unfolding InPlace
in_at k n w due least t i j P = P

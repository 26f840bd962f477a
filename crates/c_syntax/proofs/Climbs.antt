-- What goes on after a first part keeps what was spelled.
use Rattle.std.proofs.Common.{◌≡◌, refl, subst, ap, sym, ◌∙◌, ℕ, suc, ◌<◌, ◌≤◌, max, nat_lt, nat_eq, Bool, true, false, not, List, ◌∷◌, Option, Some, None, Ok, arith}
use borrow.Author.Tests.{ltb-false}
use Rattle.c_tokens.specs.declared.token.Shape.{Shape}
use Rattle.c_tokens.specs.declared.token.Punct.TheVariants as punct
use Rattle.c_tokens.specs.declared.class.Class.TheVariants as class
use Rattle.c_tokens.specs.ClassNumbers.{class_number}
use Rattle.c_forms.specs.declared.pieces.Sort.{Sort}
use Rattle.c_forms.specs.declared.pieces.Sort.TheVariants as s
use Rattle.c_forms.specs.declared.pieces.Piece.{Piece}
use Rattle.c_forms.specs.declared.pieces.Piece.TheVariants.{One}
use Rattle.c_forms.specs.declared.forms.Form.{Form}
use Rattle.c_forms.specs.Forests.{Plain}
use Rattle.c_forms.specs.Measures.{level, pieces}
use Rattle.c_reader.specs.States.{State}
use Rattle.c_reader.specs.Tokens.{Spot, step, raw_at, class_at}
use Rattle.c_reader.specs.Readers.{Input, Reader, Found, More, Last, Of, Refuse, Loop, read, below, and_then, pick, only, choose, here}
use Rattle.c_reader.proofs.Local.{from}
use Rattle.c_reader.proofs.Loops.{split, kept, same_answer, same_place, same_pair}
use Rattle.c_reader.proofs.Advance.{grew, stayed}
use Rattle.c_reader.proofs.Sets.{both, not_true, same_class}
use Rattle.c_syntax.specs.Allowed.{places}
use Rattle.c_syntax.specs.Reading.{Parts, is_absent, inside, is_starred, one, completed, deeper, called, parts_by}
use Rattle.c_syntax.specs.Grammar.{body, sign, parenthesized, tight, after_first, after_part, Standing, standing, left_level, continued_by, may_follow, is_tail, tail_by, turn, climb}
use Rattle.c_syntax.specs.Spells.{Spelling, parts_spelled, may_be, IsNode, At, Is, Wraps, BeginsWrapped, wrapped_sort}
use Rattle.c_syntax.proofs.Told.{levels, lower, In, Tells, Says, Calls, Inner, is_due, some_level, lowered, spelled_in, roomy, told_both, told_so}
use Rattle.c_syntax.proofs.Parts.{fine_first, Holds, picked}
use Rattle.c_syntax.proofs.Nodes.{IsForm, node_of, none_due, ok, after_says, at_in}
use Rattle.c_syntax.proofs.Rows.{first_sort, tail_right, owned_after, Tails, begins_one}

-- nothing goes on with a member's declarator that is absent
abbrev pub MayGo : Sort → Plain → Type 0
MayGo s.MemberName t = is_absent t ≡ false
MayGo _ t = Unit {0}

-- what stands is spelled where it stands, and wherever a first part may
abbrev pub Stood : List Shape → Sort → ℕ → ℕ → ℕ → Plain → Spot → Spot → Type 0
Stood w due k n l t i j = In (suc k) n w due l t i j × (MayGo due t → In places n w (wrapped_sort due) l t i j)

-- at each level that is due
abbrev pub Stands : ℕ → List Shape → Sort → ℕ → ℕ → Spot → Standing → Input → Type 0
Stands d w due k least i y p = Tells d w y.found.height (λ n j. (l : ℕ) → l ≤ max least y.level → Stood w due k n l y.found.tree i j) p

-- what is known of a sort with levels
pub record Leveled (due : Sort) : Type 1 where
  pub tails : Tails due
  pub first : (ps : List Piece) → begins_one due ps ≡ true → ps ≡ One (first_sort due) (left_level ps) ∷ after_first ps
  pub same : inside due (first_sort due) ≡ wrapped_sort due
  pub go : (st : State) (t : Plain) (f : Form) → may_follow due st t f ≡ true → MayGo due t
  pub wrapped : (w : List Shape) (l : ℕ) (f : Form) (n k : ℕ) (t : Plain) (i j : Spot) → MayGo due t → may_be due f ≡ true → l ≤ level f → IsForm w due f n k t i j → At (levels n) (lower n w) (In k n w) w (wrapped_sort due) l t i j
  pub node : (levels : Type 0) (deeper inner : Spelling) (w : List Shape) (l : ℕ) (t : Plain) (i j : Spot) → IsNode levels deeper inner w due l t i j → At levels deeper inner w due l t i j
  pub wraps : (levels : Type 0) (deeper inner : Spelling) (w : List Shape) (l : ℕ) (t : Plain) (i j : Spot) → Wraps levels deeper w due t i j → At levels deeper inner w due l t i j
  pub wrapped_wraps : (levels : Type 0) (deeper inner : Spelling) (w : List Shape) (l : ℕ) (t : Plain) (i j : Spot) → MayGo due t → Wraps levels deeper w due t i j → At levels deeper inner w (wrapped_sort due) l t i j

all_alike : (b : Bool) (inner : Parts) → b ≡ true → parts_by b called ≡ parts_by b inner
all_alike true inner e = refl
all_alike false inner e = absurd (cc e)

ok_starred : (b : Bool) (l : ℕ) (own : Sort) (ps : List Piece) → b ≡ true → fine_first is_due own ps ≡ true → fine_first (ok b l) own ps ≡ true
ok_starred true l own ps e F = F
ok_starred false l own ps e F = absurd (cc e)

lower_part : (b : Bool) (n k : ℕ) (w : List Shape) (a c : Sort) (least : ℕ) (t : Plain) (i j : Spot) → b ≡ true → a ≡ c → lower n w c least t i j → parts_spelled b (lower n w) (In k n w) a least t i j
lower_part true n k w a c least t i j e same P = subst (λ a. lower n w a least t i j) (sym same) P
lower_part false n k w a c least t i j e same P = absurd (cc e)

-- an operand in parentheses, after the first of them
pub record Paren (d : ℕ) (w : List Shape) (due : Sort) (m : Spot) (x : Found) (p : Input) : Type 0 where
  pub last : Spot
  pub placed : p ≡ from w (step last)
  pub high : x.height ≤ d
  pub some : 0 < x.height
  pub closes : Is w (class.Punct punct.RightParen) last
  pub spelled : (n : ℕ) → x.height ≤ n → lower n w due 1 x.tree m last

-- a form that is as tight as it must be
pub record Tight (d least : ℕ) (f : Form) (r : Reader Found) (q : Input) (y : Standing) (p : Input) : Type 0 where
  pub found : Found
  pub value : y ≡ record { found = found; level = level f }
  pub tight : least ≤ level f
  pub reads : read body d r q ≡ Ok (found, p)

pub tight_read : (d least : ℕ) (f : Form) (r : Reader Found) (q : Input) (y : Standing) (p : Input) → read body d (tight least f r) q ≡ Ok (y, p) → Tight d least f r q y p
tight_read d least f r q y p h = by_test (nat_lt (level f) least) refl h
  where
    by_test : (b : Bool) → nat_lt (level f) least ≡ b → read body d (choose b Refuse (standing (level f) r)) q ≡ Ok (y, p) → Tight d least f r q y p
    by_test true e h = absurd (cc h)
    by_test false e h =
        let a = split (read body d r q) (λ x j. Ok (record { found = x; level = level f }, j)) y p h in
        record {
          found = a.value;
          value = sym (same_answer (record { found = a.value; level = level f }) y a.place p a.second);
          tight = ltb-false (level f) least e;
          reads = a.first ∙ ap (λ j. Ok (a.value, j)) (same_place (record { found = a.value; level = level f }) y a.place p a.second);
        }

module _ (d : ℕ) (w : List Shape) (E : Calls d w) (inner : Parts) (IS : Inner d w inner) (due : Sort) (L : Leveled due) (k : ℕ) (least : ℕ) where
  pub paren_says : (due : Sort) (m : Spot) (x : Found) (p : Input) → is_due due 1 ≡ true → read body d (parenthesized due) (from w m) ≡ Ok (x, p) → Paren d w due m x p
  paren_says due m x p g h =
      let a = split (below body d (Of due 1) (from w m)) (λ x k. and_then (pick (only (nat_eq (here k).class (class_number (sign punct.RightParen)))) k) (λ _ j. Ok (deeper x, j))) x p h in
      let C = E due 1 m a.value a.place g a.first in
      let b = split (pick (only (nat_eq (class_at w C.place) (class_number (sign punct.RightParen)))) (from w C.place)) (λ _ j. Ok (deeper a.value, j)) x p
      (subst (λ k. and_then (pick (only (nat_eq (here k).class (class_number (sign punct.RightParen)))) k) (λ _ j. Ok (deeper a.value, j)) ≡ Ok (x, p)) C.placed a.second) in
      let T = picked (nat_eq (class_at w C.place) (class_number (sign punct.RightParen))) b.value (from w C.place) b.place b.first in
      subst (λ (y : Found × Input). Paren d w due m y.0 y.1) (same_pair (deeper a.value) x b.place p b.second) (record {
        last = C.place;
        placed = T.1;
        high = omega (arith, C.high);
        some = omega arith;
        closes = same_class (class_at w C.place) (class_number (sign punct.RightParen)) T.0;
        spelled = λ n le. lowered w due 1 a.value.tree m C.place a.value.height n C.spelled le;
      })

  -- a tree in parentheses stands
  pub paren_stands : (i : Spot) (x : Found) (p : Input) → Is w (class.Punct punct.LeftParen) i → BeginsWrapped due w (step i) → is_absent x.tree ≡ false → Paren d w (wrapped_sort due) (step i) x p
      → Stands d w due k least i (record { found = x; level = 17 }) p
  paren_stands i x p opens begins there P = record {
    place = step P.last;
    placed = P.placed;
    high = P.high;
    spelled = λ n le l under.
        let W : Wraps (levels n) (lower n w) w due x.tree i (step P.last) = record { last = P.last; left = some_level n (omega (arith, P.some)); opens = opens; begins = begins; within = P.spelled n le; is_there = there; closes = P.closes; ends = refl } in (
          at_in k n w due l x.tree i (step P.last) (L.wraps (levels n) (lower n w) (In k n w) w l x.tree i (step P.last) W),
          λ go. at_in 8 n w (wrapped_sort due) l x.tree i (step P.last) (L.wrapped_wraps (levels n) (lower n w) (In 8 n w) w l x.tree i (step P.last) go W),
        );
  }

  -- a node stands
  pub node_stands : (f : Form) (i : Spot) (x : Found) (p : Input) → may_be due f ≡ true → least ≤ level f → Says d w (λ n t i j. IsForm w due f n k t i j) i x p → Says d w (λ n t i j. IsForm w due f n 8 t i j) i x p
      → Stands d w due k least i (record { found = x; level = level f }) p
  node_stands f i x p may tight A B = told_so d w x.height (λ n j. IsForm w due f n k x.tree i j × IsForm w due f n 8 x.tree i j) (λ n j. (l : ℕ) → l ≤ max least (level f) → Stood w due k n l x.tree i j) p
      (λ n j le F l under. (
        at_in k n w due l x.tree i j (L.node (levels n) (lower n w) (In k n w) w l x.tree i j (node_of w due l f n k x.tree i j may (omega arith) F.0)),
        λ go. at_in 8 n w (wrapped_sort due) l x.tree i j (L.wrapped w l f n 8 x.tree i j go may (omega arith) F.1),
      ))
      (told_both d w x.height (λ n j. IsForm w due f n k x.tree i j) (λ n j. IsForm w due f n 8 x.tree i j) p A B)

  goes_after : (f : Form) (i m : Spot) (y : Standing) (x : Found) (p : Input) (t : ℕ) → tail_right due (Some f) ≡ true → Holds f (after_first (pieces f)) (raw_at w m.place) → left_level (pieces f) ≤ y.level → MayGo due y.found.tree → y.found.height < d
      → ((n : ℕ) → y.found.height ≤ n → (l : ℕ) → l ≤ max least y.level → Stood w due k n l y.found.tree i m)
      → read body d (after_part called due f i.place (deeper y.found)) (from w m) ≡ Ok (x, p) → Says d w (λ n t' i j. IsForm w due f n t t' i j) i x p
  goes_after f i m y x p t R o wide go room P h =
      let a = both (may_be due f) _ R in
      let b = both (is_starred f) _ a.1 in
      let c = both (begins_one due (pieces f)) _ b.1 in
      let e = both (none_due (after_first (pieces f))) _ c.1 in
      after_says d w E inner IS t t (omega arith) due f (first_sort due) (left_level (pieces f)) i m (deeper y.found) x p (L.first (pieces f) c.0) (ok_starred (is_starred f) t due (after_first (pieces f)) b.0 e.1) e.0 o
      (λ _. omega arith) (omega arith)
      (λ n le. lower_part (is_starred f) n t w (inside due (first_sort due)) (wrapped_sort due) (left_level (pieces f)) y.found.tree i m b.0 L.same
      (lowered w (wrapped_sort due) (left_level (pieces f)) y.found.tree i m y.found.height n (λ n le. spelled_in n w (wrapped_sort due) (left_level (pieces f)) y.found.tree i m ((P n le (left_level (pieces f)) (omega arith)).1 go)) le))
      (ap (λ q. read body d (completed q due f i.place (one (deeper y.found)) (after_first (pieces f))) (from w m)) (sym (all_alike (is_starred f) inner b.0)) ∙ h)

  tail_read : (i m : Spot) (y z : Standing) (o : Option Form) (p : Input) → continued_by due (raw_at w m.place) ≡ o → tail_right due o ≡ true → owned_after o (raw_at w m.place) ≡ Some (raw_at w m.place) → is_tail due least m.state y o ≡ true
      → ((n : ℕ) → y.found.height ≤ n → (l : ℕ) → l ≤ max least y.level → Stood w due k n l y.found.tree i m)
      → read body d (tail_by due i.place y o) (from w m) ≡ Ok (z, p) → Stands d w due k least i z p
  tail_read i m y z (Some f) p q R o on P h =
      let a = both (not (nat_lt (level f) least)) _ on in
      let b = both (not (nat_lt y.level (left_level (pieces f)))) _ a.1 in
      let v = roomy d y.found.height (nat_lt y.found.height d) (read body d (standing (level f) (after_part called due f i.place (deeper y.found))) (from w m)) m.place z p refl h in
      let c = split (read body d (after_part called due f i.place (deeper y.found)) (from w m)) (λ x j. Ok (record { found = x; level = level f }, j)) z p v.1 in
      let wide : left_level (pieces f) ≤ y.level = ltb-false y.level (left_level (pieces f)) (not_true (nat_lt y.level (left_level (pieces f))) b.0) in
      let go : MayGo due y.found.tree = L.go m.state y.found.tree f b.1 in
      subst (λ (z : Standing × Input). Stands d w due k least i z.0 z.1) (same_pair (record { found = c.value; level = level f }) z c.place p c.second)
      (node_stands f i c.value c.place (both (may_be due f) _ R).0 (ltb-false (level f) least (not_true (nat_lt (level f) least) a.0))
      (goes_after f i m y c.value c.place k R o wide go v.0 P c.first) (goes_after f i m y c.value c.place 8 R o wide go v.0 P c.first))
  tail_read i m y z None p q R o on P h = absurd (cc on)

  more : (i : Spot) (y : Standing) (q : Input) (z : Standing) (p : Input) → Stands d w due k least i y q → read body d (turn due least i.place y) q ≡ Ok (More z, p) → Stands d w due k least i z p
  more i y q z p S h =
      let m : Spot = S.place in
      let G = grew body (λ y x. is_tail due least m.state y (continued_by due x.shape)) (λ x y. tail_by due i.place y (continued_by due x.shape)) d y z (from w m) p _ (subst (λ q. read body d (turn due least i.place y) q ≡ Ok (More z, p)) S.placed h) in
      let F = L.tails (raw_at w m.place) in
      tail_read i m y z (continued_by due (raw_at w m.place)) p refl F.0 F.1 G.0 S.spelled G.1

  last : (i : Spot) (y : Standing) (q : Input) (z : Standing) (p : Input) → Stands d w due k least i y q → read body d (turn due least i.place y) q ≡ Ok (Last z, p) → Stands d w due k least i z p
  last i y q z p S h =
      let m : Spot = S.place in
      let G = stayed body (λ y x. is_tail due least m.state y (continued_by due x.shape)) (λ x y. tail_by due i.place y (continued_by due x.shape)) d y z (from w m) p _ (subst (λ q. read body d (turn due least i.place y) q ≡ Ok (Last z, p)) S.placed h) in
      subst (λ (z : Standing × Input). Stands d w due k least i z.0 z.1) G.1 (record { place = m; placed = refl; high = S.high; spelled = S.spelled })

  -- what stands goes on
  pub climb_says : (i : Spot) (y : Standing) (q : Input) (x : Found) (p : Input) → Stands d w due k least i y q → read body d (climb due least i.place y) q ≡ Ok (x, p)
      → Tells d w x.height (λ n j. Stood w due k n least x.tree i j) p
  unfolding climb
  climb_says i y q x p S h =
      let a = split (read body d (Loop (turn due least i.place) y) q) (λ z j. Ok (z.found, j)) x p h in
      let K : Stands d w due k least i a.value a.place = kept (λ y j. read body d (turn due least i.place y) j) (Stands d w due k least i) (Stands d w due k least i) (λ y q z p. more i y q z p) (λ y q z p. last i y q z p) _ y q a.value a.place S a.first in
      subst (λ (y : Found × Input). Tells d w y.0.height (λ n j. Stood w due k n least y.0.tree i j) y.1) (same_pair a.value.found x a.place p a.second)
      (record { place = K.place; placed = K.placed; high = K.high; spelled = λ n le. K.spelled n le least (omega arith) })

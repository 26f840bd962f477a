-- What goes on after a first part is read turn by turn.
use Rattle.std.proofs.Common.{◌≡◌, ◌⊎◌, inl, inr, refl, ap, ◌∙◌, ℕ, ◌+◌, ◌<◌, ◌≤◌, max, not, nat_lt, Bool, true, false, ◌&&◌, List, length, [], ◌∷◌, Option, Some, None, Ok, arith}
use Rattle.std.proofs.lemmas.Bool.{lt-ltb, and_from}
use Rattle.c_tokens.specs.declared.token.Punct.{Punct}
use Rattle.c_tokens.specs.declared.token.Punct.TheVariants as punct
use Rattle.c_tokens.specs.declared.token.Shape.{Shape}
use Rattle.c_tokens.specs.declared.token.Shape.TheVariants as shape
use Rattle.c_tokens.specs.declared.class.Class.TheVariants as class
use Rattle.c_tokens.specs.ClassNumbers.{class_number}
use Rattle.c_forms.specs.declared.pieces.Sort.{Sort}
use Rattle.c_forms.specs.declared.pieces.Piece.{Piece}
use Rattle.c_forms.specs.declared.forms.Form.{Form}
use Rattle.c_forms.specs.Forests.{Plain}
use Rattle.c_forms.specs.Forests as forests
use Rattle.c_forms.specs.Measures.{level, pieces}
use Rattle.c_forms.specs.Tokens.{continued}
use Rattle.c_forms.specs.Sets.{has, goes_on}
use Rattle.c_reader.specs.States.{class as class_in}
use Rattle.c_reader.specs.Tokens.{Spot, step, raw_at, seen_at, class_at}
use Rattle.c_reader.specs.Readers.{Input, Reader, Found, Outcome, Turn, More, Last, Body, Of, Give, Bind, read, below, and_then, pick, only, token, choose, when, Refuse, ◌>>◌}
use Rattle.c_reader.proofs.Local.{from}
use Rattle.c_reader.proofs.Sets.{both, single}
use Rattle.c_syntax.specs.Allowed.{places}
use Rattle.c_syntax.specs.Reading.{Parts, one, node, deeper, called, parts_by, is_starred, height_over, spanned, is_class, Usual, joined, pieces_in, completed}
use Rattle.c_syntax.specs.Grammar.{Standing, standing, parenthesized, left_level, continued_by, may_follow, is_tail, tail_by, turn, climb, tight, after_first, after_part}
use Rattle.c_syntax.specs.Spells.{Spelling, Is, Matches}
use Rattle.c_spelled.specs.Fitting.{is_read, reads, follows, fitting, needs, is_leveled, source_end}
use Rattle.c_spelled.specs.Operators.{unapt, operands_fit}
use Rattle.c_spelled.proofs.Off.{Off, in_list}
use Rattle.c_spelled.proofs.Begins.{AllBegin}
use Rattle.c_spelled.proofs.Turns.{Comes, stay, go, stop}
use Rattle.c_spelled.proofs.Groups.{Got}
use Rattle.c_spelled.proofs.Pieces.{AllRead, GotParts, pieces_read, is_it}
use Rattle.c_spelled.proofs.Nodes.{off_within}
use Rattle.c_spelled.proofs.Levels.{too_loose, not_less}

-- ---- calls

-- it answers this tree, which is lower than this
pub record Lower (o : Outcome Found) (top : ℕ) (t : Plain) (w : List Shape) (j : Spot) : Type 0 where
  pub height : ℕ
  pub low : height < top
  pub reads : o ≡ Ok (record { tree = t; height = height }, from w j)

-- a spelling is read by calls
abbrev pub AllCalled : Body → ℕ → ℕ → List Shape → Spelling → Type 0
AllCalled body d top w P = (due : Sort) (least : ℕ) (t : Plain) (i j : Spot) → is_read due ≡ true → P due least t i j → Off (goes_on due least) w j.place → Lower (below body d (Of due least) (from w i)) top t w j

pub called_read : (body : Body) (d top : ℕ) (w : List Shape) (P : Spelling) → AllCalled body d top w P → AllRead body d top w places P called
called_read body d top w P C due least t i j r n p o = let L = C due least t i j r p o in
    record { height = L.height + 1; low = omega (arith, L.low); reads = ap (λ o. and_then o (λ x j. Ok (deeper x, j))) L.reads }

abbrev pub stand : Plain → ℕ → ℕ → Standing
stand t height level = record { found = record { tree = t; height = height }; level = level }

-- tight enough, or as tight as can be
abbrev pub Tight : ℕ → ℕ → Type 0
Tight least l = (least ≤ l) ⊎ (l ≡ 17)

pub tight_in : (least l : ℕ) → least ≤ 17 → Tight least l → least ≤ l
tight_in least l few (inl e) = e
tight_in least l few (inr e) = omega (arith, few, e)

abbrev parts_when : Bool → Parts
parts_when b = parts_by b called

height_low : (b : Bool) → b ≡ true → (n top : ℕ) → n ≤ top → 0 < top → height_over b n < top + 1
height_low true e n top low some = omega (arith, low, some)
height_low false e n top low some = absurd (cc e)

no_end : (p : Punct) → has (class_number (class.Punct p) ∷ []) source_end ≡ false
no_end punct.LeftBracket = refl
no_end _ = refl

module _ (body : Body) (d : ℕ) (w : List Shape) where
  pub stands_at : (level : ℕ) (r : Reader Found) (top : ℕ) (t : Plain) (i j : Spot) (G : Got (read body d r (from w i)) top t w j) → read body d (standing level r) (from w i) ≡ Ok (stand t G.height level, from w j)
  stands_at level r top t i j G = ap (λ o. and_then o (λ x j. Ok (record { found = x; level = level }, j))) G.reads

  pub tight_at : (least : ℕ) (f : Form) (r : Reader Found) (top : ℕ) (t : Plain) (i j : Spot) (G : Got (read body d r (from w i)) top t w j) → least ≤ level f → read body d (tight least f r) (from w i) ≡ Ok (stand t G.height (level f), from w j)
  tight_at least f r top t i j G e = ap (λ b. read body d (choose b Refuse (standing (level f) r)) (from w i)) (not_less (level f) least e) ∙ stands_at (level f) r top t i j G

  paren_at : (b : Bool) (x : Found) (k : Spot) → b ≡ true → and_then (pick (only b) (from w k)) (λ _ j. Ok (deeper x, j)) ≡ Ok (deeper x, from w (step k))
  paren_at true x k e = refl
  paren_at false x k e = absurd (cc e)

  -- what is called in parentheses
  pub in_parens : (due : Sort) (top : ℕ) (t : Plain) (i k j : Spot) → Lower (below body d (Of due 1) (from w i)) top t w k → Is w (class.Punct punct.RightParen) k → step k ≡ j → Got (read body d (parenthesized due) (from w i)) top t w j
  in_parens due top t i k j L c e = record {
    height = L.height + 1;
    low = omega (arith, L.low);
    reads = ap (λ o. and_then o (λ x j. read body d (token (class_number (class.Punct punct.RightParen)) >> Give (deeper x)) j)) L.reads
        ∙ paren_at (is_class (class.Punct punct.RightParen) (seen_at w k)) (record { tree = t; height = L.height }) k (is_it w (class.Punct punct.RightParen) k c)
        ∙ ap (λ k. Ok (record { tree = t; height = L.height + 1 }, from w k)) e;
  }

  module _ (due : Sort) (least origin : ℕ) where
    abbrev pub turns : Standing → Input → Outcome (Turn Standing Standing)
    turns y i = read body d (turn due least origin y) i

    abbrev chosen : Standing → Spot → Bool → Option Form → Outcome (Turn Standing Standing)
    chosen y k b o = read body d (choose b (Bind (tail_by due origin y o) (λ t. Give (More t))) (Give (Last y))) (from w k)

    pub turn_on : (y x : Standing) (f : Form) (k j : Spot) → continued_by due (raw_at w k.place) ≡ Some f → is_tail due least k.state y (Some f) ≡ true → read body d (tail_by due origin y (Some f)) (from w k) ≡ Ok (x, from w j) → turns y (from w k) ≡ Ok (More x, from w j)
    turn_on y x f k j e on r = ap (λ o. chosen y k (is_tail due least k.state y o) o) e ∙ ap (λ b. chosen y k b (Some f)) on ∙ ap (λ o. and_then o (λ t j. Ok (More t, j))) r

    pub turn_off : (y : Standing) (k : Spot) → is_tail due least k.state y (continued_by due (raw_at w k.place)) ≡ false → turns y (from w k) ≡ Ok (Last y, from w k)
    turn_off y k e = ap (λ b. chosen y k b (continued_by due (raw_at w k.place))) e

    -- What begins comes to a tree, which may go on; Q is known of the first part.
    pub record Rises (Q : Standing → Spot → Type 0) (head : Reader Standing) (most : ℕ) (i : Spot) (t : Plain) (m : ℕ) (j : Spot) : Type 0 where
      pub level : ℕ
      pub tight : Tight m level
      pub height : ℕ
      pub low : height < most
      pub first : Standing
      pub place : Spot
      pub start : read body d head (from w i) ≡ Ok (first, from w place)
      pub comes : Comes w turns first place (stand t height level) j
      pub kept : Q first place

    by_shape : (y : Standing) (k : Spot) (f : Form) → is_leveled due ≡ true → Off (goes_on due least) w k.place → (x : Shape) → raw_at w k.place ≡ x → continued_by due x ≡ Some f → nat_lt (level f) least ≡ true
    by_shape y k f h o (shape.Punct p) e g = too_loose due least w k p f h o e g
    by_shape y k f h o _ e g = absurd (cc g)

    no_tail : (y : Standing) (k : Spot) → is_leveled due ≡ true → Off (goes_on due least) w k.place → (o : Option Form) → continued_by due (raw_at w k.place) ≡ o → is_tail due least k.state y o ≡ false
    no_tail y k h o None e = refl
    no_tail y k h o (Some f) e = ap (λ b. not b && (not (nat_lt y.level (left_level (pieces f))) && may_follow due k.state y.found.tree f)) (by_shape y k f h o (raw_at w k.place) refl e)

    -- and does not, where what follows does not go on
    pub ends_at : (Q : Standing → Spot → Type 0) (head : Reader Standing) (most : ℕ) (i : Spot) (t : Plain) (m : ℕ) (j : Spot) → is_leveled due ≡ true → (R : Rises Q head most i t m j) → Off (goes_on due least) w j.place
        → read body d (climb due least origin R.first) (from w R.place) ≡ Ok (record { tree = t; height = R.height }, from w j)
    unfolding climb
    ends_at Q head most i t m j h R o = ap (λ o. and_then o (λ z j. Ok (z.found, j))) (stop w turns R.first R.place (stand t R.height R.level) j (stand t R.height R.level) (from w j) R.comes
        (turn_off (stand t R.height R.level) j (no_tail (stand t R.height R.level) j h o (continued_by due (raw_at w j.place)) refl)) (d + length w) (omega arith))

    pub finish : (Q : Standing → Spot → Type 0) (head : Reader Standing) (top : ℕ) (i : Spot) (t : Plain) (m : ℕ) (j : Spot) → is_leveled due ≡ true → Rises Q head (top + 1) i t m j → Off (goes_on due least) w j.place
        → Got (and_then (read body d head (from w i)) (λ y j. read body d (climb due least origin y) j)) top t w j
    finish Q head top i t m j h R o = record {
      height = R.height;
      low = omega (arith, R.low);
      reads = ap (λ o. and_then o (λ y j. read body d (climb due least origin y) j)) R.start ∙ ends_at Q head (top + 1) i t m j h R o;
    }

    -- the first part alone
    pub begin : (Q : Standing → Spot → Type 0) (head : Reader Standing) (most : ℕ) (i : Spot) (t : Plain) (m height level : ℕ) (j : Spot) → Tight m level → height < most → read body d head (from w i) ≡ Ok (stand t height level, from w j) → Q (stand t height level) j
        → Rises Q head most i t m j
    begin Q head most i t m height level j e low r q = record { kept = q; level = level; tight = e; height = height; low = low; first = stand t height level; place = j; start = r; comes = stay w turns (stand t height level) j }

    -- an operator and what follows it
    pub longer : (Q : Standing → Spot → Type 0) (deep : Spelling) (top : ℕ) (DB : AllBegin w deep) (DE : AllRead body d top w places deep called) (head : Reader Standing) (i k j : Spot) (left : Plain) (others : List Plain) (f : Form) (m : ℕ) (rest : List Piece) (p : Punct)
        → is_leveled due ≡ true → (0 < d) × (0 < top) → top ≤ d → Rises Q head top i left m k → m ≤ 17 → least ≤ level f
        → raw_at w k.place ≡ shape.Punct p → continued due p ≡ Some f → left_level (pieces f) ≡ m → after_first (pieces f) ≡ rest → is_starred f ≡ true → may_follow due k.state left f ≡ true
        → operands_fit due f rest ≡ true → needs due rest ≤ places → Off (unapt due (level f)) w j.place → Matches deep w due f Usual rest others k j → k.place < j.place
        → Rises Q head (top + 1) i (forests.node f (spanned origin j.place) (left ∷ others)) (level f) j
    unfolding completed
    longer Q deep top DB DE head i k j left others f m rest p h room under R few tight_f raw found left_is rest_is star follow F N o M ahead =
        let fit = both (reads due rest) _ F in
        let fit' = both (fitting due f rest) _ fit.1 in
        let G : GotParts (read body d (pieces_in called due f Usual rest) (from w k)) top others w j = pieces_read body d top w places deep called DB DE due f Usual rest others k j fit.0 N fit'.0 (off_within (follows due rest) (unapt due (level f)) w j.place fit'.1 o) M in
        let y : Standing = stand left R.height R.level in
        let height : ℕ = height_over (is_starred f) (max (R.height + 1) G.height) in
        let x : Standing = stand (forests.node f (spanned origin j.place) (left ∷ others)) height (level f) in
        let on : is_tail due least k.state y (Some f) ≡ true = and_from (not (nat_lt (level f) least)) _ (ap not (not_less (level f) least tight_f))
        (and_from (not (nat_lt R.level (left_level (pieces f)))) _ (ap not (ap (λ n. nat_lt R.level n) left_is ∙ not_less R.level m (tight_in m R.level few R.tight))) follow) in
        let parts : read body d (completed called due f origin (one (deeper y.found)) rest) (from w k) ≡ Ok (x.found, from w j) = ap (λ o. and_then o (λ g j. Ok (node f origin j.at.place (joined (one (deeper y.found)) g), j))) G.reads in
        let made : read body d (tail_by due origin y (Some f)) (from w k) ≡ Ok (x, from w j) =
        ap (λ b. when b (read body d (standing (level f) (after_part called due f origin (deeper y.found))) (from w k)) k.place) (lt-ltb R.height d (omega (arith, R.low, under)))
        ∙ ap (λ b. read body d (standing (level f) (completed (parts_when b) due f origin (one (deeper y.found)) (after_first (pieces f)))) (from w k)) star
        ∙ ap (λ ps. read body d (standing (level f) (completed called due f origin (one (deeper y.found)) ps)) (from w k)) rest_is
        ∙ ap (λ o. and_then o (λ x j. Ok (record { found = x; level = level f }, j))) parts in
        let bracket : has (class_number (class.Punct p) ∷ []) (class_at w k) ≡ true = single (class_number (class.Punct p)) (class_at w k) (ap (λ x. class_in k.state x) raw) in
        record {
          level = level f;
          tight = inl (omega arith);
          height = height;
          low = height_low (is_starred f) star (max (R.height + 1) G.height) top (omega (arith, R.low, G.low)) room.1;
          first = R.first;
          place = R.place;
          start = R.start;
          kept = R.kept;
          comes = go w turns R.first R.place y k x j R.comes (turn_on y x f k j (ap (continued_by due) raw ∙ found) on made) (in_list (class_number (class.Punct p) ∷ []) w k bracket (no_end p)) ahead;
        }

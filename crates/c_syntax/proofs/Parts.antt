-- The pieces of a form that were read are those that are spelled.
use Rattle.std.proofs.Common.{◌≡◌, inl, inr, refl, subst, ap, sym, ◌∙◌, ℕ, ◌≤◌, nat_eq, Bool, true, false, ◌&&◌, List, [], ◌∷◌, Option, Some, Ok, arith}
use Rattle.std.proofs.lemmas.Bool.{and_from}
use Rattle.c_tokens.specs.declared.class.Class.{Class}
use Rattle.c_tokens.specs.declared.token.Shape.{Shape}
use Rattle.c_tokens.specs.ClassNumbers.{class_number}
use Rattle.c_forms.specs.declared.pieces.Event.{Event}
use Rattle.c_forms.specs.declared.pieces.Sort.{Sort}
use Rattle.c_forms.specs.declared.pieces.Repetition.{Repetition}
use Rattle.c_forms.specs.declared.pieces.Repetition.TheVariants.{Optional, Greedy, Due, All, Any, Many, Spliced, Ended}
use Rattle.c_forms.specs.declared.pieces.Piece.{Piece}
use Rattle.c_forms.specs.declared.pieces.Piece.TheVariants.{Token, Maybe, Own, One, Group, Then}
use Rattle.c_forms.specs.declared.forms.Form.{Form}
use Rattle.c_forms.specs.Forests.{Plain, forest}
use Rattle.c_forms.specs.Forests as forests
use Rattle.c_forms.specs.Rules.{is_none}
use Rattle.c_forms.specs.Tokens.{held}
use Rattle.c_forms.specs.Sets.{has, held_class}
use Rattle.c_reader.specs.States.{happens}
use Rattle.c_reader.specs.Tokens.{Spot, step, turned, raw_at, class_at}
use Rattle.c_reader.specs.Readers.{Input, Found, Give, Refuse, Change, Next, read, choose, only, pick, next, ◌>>=◌}
use Rattle.c_reader.proofs.Local.{from}
use Rattle.c_reader.proofs.Loops.{split, same_place, same_pair}
use Rattle.c_reader.proofs.Sets.{both, same_class}
use Rattle.c_syntax.specs.Allowed.{may_happen}
use Rattle.c_syntax.specs.Reading.{Parts, Before, Usual, before_by, has_none, is_absent, inside, Listed, nothing, with_first, Gathered, list_from, the_list, spanned, gathered_by, gathered, pieces_in}
use Rattle.c_syntax.specs.Grammar.{body}
use Rattle.c_syntax.specs.Spells.{Spelling, IsGroup, IsList, Matches}
use Rattle.c_syntax.proofs.Told.{Tells, Says}
use Rattle.c_syntax.proofs.Groups.{Ends, Gathers, is_small, gathered_says}

-- after elements that end in a separator or not, that separator or none stands
abbrev pub parts_from : Repetition → List Piece → Bool
parts_from (Ended c e) (Maybe b ∷ ps) = nat_eq (class_number c) (class_number b)
parts_from (Ended c e) _ = false
parts_from _ ps = true

-- pieces all of whose parts are of certain sorts and levels, and none of which is the form's own token
abbrev pub fine : (Sort → ℕ → Bool) → Sort → List Piece → Bool
fine ok own [] = true
fine ok own (Token c ∷ ps) = fine ok own ps
fine ok own (Maybe c ∷ ps) = fine ok own ps
fine ok own (One due least ∷ ps) = ok (inside own due) least && fine ok own ps
fine ok own (Group r due least ∷ ps) = (is_small r && parts_from r ps) && (ok due least && fine ok own ps)
fine ok own (Then e ∷ ps) = fine ok own ps
fine ok own _ = false

-- and the first of which may be
abbrev pub fine_first : (Sort → ℕ → Bool) → Sort → List Piece → Bool
fine_first ok own (Own ∷ ps) = fine ok own ps
fine_first ok own ps = fine ok own ps

fine_more : (ok more : Sort → ℕ → Bool) → ((due : Sort) (least : ℕ) → ok due least ≡ true → more due least ≡ true) → (own : Sort) (ps : List Piece) → fine ok own ps ≡ true → fine more own ps ≡ true
fine_more ok more h own [] F = F
fine_more ok more h own (Token c ∷ ps) F = fine_more ok more h own ps F
fine_more ok more h own (Maybe c ∷ ps) F = fine_more ok more h own ps F
fine_more ok more h own (One due least ∷ ps) F = let f = both (ok (inside own due) least) (fine ok own ps) F in and_from (more (inside own due) least) (fine more own ps) (h (inside own due) least f.0) (fine_more ok more h own ps f.1)
fine_more ok more h own (Group r due least ∷ ps) F = let z = both (is_small r && parts_from r ps) (ok due least && fine ok own ps) F in let f = both (ok due least) (fine ok own ps) z.1 in
    and_from (is_small r && parts_from r ps) (more due least && fine more own ps) z.0 (and_from (more due least) (fine more own ps) (h due least f.0) (fine_more ok more h own ps f.1))
fine_more ok more h own (Then e ∷ ps) F = fine_more ok more h own ps F
fine_more ok more h own (_ ∷ ps) F = absurd (cc F)

pub fine_first_more : (ok more : Sort → ℕ → Bool) → ((due : Sort) (least : ℕ) → ok due least ≡ true → more due least ≡ true) → (own : Sort) (ps : List Piece) → fine_first ok own ps ≡ true → fine_first more own ps ≡ true
fine_first_more ok more h own (Own ∷ ps) F = fine_more ok more h own ps F
fine_first_more ok more h own [] F = F
fine_first_more ok more h own (q ∷ ps) F = fine_more ok more h own (q ∷ ps) F

-- the token that a form holds, where that is the first piece
abbrev pub owned : Form → List Piece → Shape → Option Shape
owned f (Own ∷ ps) x = held f
owned f _ x = Some x

abbrev pub Holds : Form → List Piece → Shape → Type 0
Holds f ps x = owned f ps x ≡ Some x

pub picked : (b : Bool) (u : Unit {0}) (i p : Input) → pick (only b) i ≡ Ok (u, p) → (b ≡ true) × (p ≡ next i)
picked true u i p h = (refl, sym (same_place tt u (next i) p h))
picked false u i p h = absurd (cc h)

none_alike : (ts : List Plain) → has_none ts ≡ is_none (forest ts)
none_alike [] = refl
none_alike (t ∷ ts) = refl

abbrev pub is_ended_by : Repetition → Bool
is_ended_by (Ended c e) = true
is_ended_by _ = false

pub ends_there : (w : List Shape) (k : Repetition) (place : Spot) (b : Bool) (p : Input) → is_ended_by k ≡ false → Ends w k place b p → p ≡ from w place
ends_there w k place false p e h = h
ends_there w (Ended c x) place true p e h = absurd (cc e)
ends_there w _ place true p e h = absurd h

-- what part reads, P spells
module _ (d : ℕ) (w : List Shape) (own : Sort) (f : Form) (part : Parts) (P : ℕ → Spelling) (ok : Sort → ℕ → Bool)
    (PS : (due : Sort) (least : ℕ) (i : Spot) (x : Found) (p : Input) → ok due least ≡ true → read body d (part due least) (from w i) ≡ Ok (x, p) → Says d w (λ n. P n due least) i x p) where
  abbrev pub Lists : Before → List Piece → Spot → Listed → Input → Type 0
  Lists before ps i x p = Tells d w x.height (λ n j. Matches (P n) w own f before ps x.trees i j) p

  -- a part, and the pieces after it
  one_then : (due : Sort) (least : ℕ) (before : Before) (ps : List Piece) (i : Spot) (x : Listed) (p : Input) → ok (inside own due) least ≡ true
      → ((b : Before) (m : Spot) (y : Listed) (q : Input) → read body d (pieces_in part own f b ps) (from w m) ≡ Ok (y, q) → Lists b ps m y q)
      → read body d (part (inside own due) least >>= λ x. pieces_in part own f (before_by (is_absent x.tree)) ps >>= λ g. Give (with_first x g)) (from w i) ≡ Ok (x, p) → Lists before (One due least ∷ ps) i x p
  one_then due least before ps i x p g rest h =
      let a = split (read body d (part (inside own due) least) (from w i)) (λ x k. read body d (pieces_in part own f (before_by (is_absent x.tree)) ps >>= λ g. Give (with_first x g)) k) x p h in
      let A = PS (inside own due) least i a.value a.place g a.first in
      let b = split (read body d (pieces_in part own f (before_by (is_absent a.value.tree)) ps) a.place) (λ g k. Ok (with_first a.value g, k)) x p a.second in
      let B = rest (before_by (is_absent a.value.tree)) A.place b.value b.place (subst (λ k. read body d (pieces_in part own f (before_by (is_absent a.value.tree)) ps) k ≡ Ok (b.value, b.place)) A.placed b.first) in
      subst (λ (y : Listed × Input). Lists before (One due least ∷ ps) i y.0 y.1) (same_pair (with_first a.value b.value) x b.place p b.second) (record {
        place = B.place;
        placed = B.placed;
        high = omega (arith, A.high, B.high);
        spelled = λ n le. record { first = a.value.tree; others = b.value.trees; place = A.place; value = refl; is_first = A.spelled n (omega arith); are_others = B.spelled n (omega arith) };
      })

  -- ---- repetitions

  -- a repetition that was read, and where it began
  pub record Grouped (k : Repetition) (due : Sort) (least : ℕ) (before : Before) (i : Spot) (y : ℕ × Gathered) (p : Input) : Type 0 where
    pub began : y.0 ≡ i.place
    pub group : Gathers d w k (λ n j. IsGroup k due (P n due least) before w y.1.trees i j) y.1 p

  pub group_of : (k : Repetition) (due : Sort) (least : ℕ) (before : Before) (i : Spot) (y : ℕ × Gathered) (p : Input) → is_small k ≡ true → ok due least ≡ true
      → read body d (gathered k due (part due least) before) (from w i) ≡ Ok (y, p) → Grouped k due least before i y p
  unfolding gathered
  group_of k due least before i y p small g h =
      let a = split (read body d (gathered_by k due (part due least) before i.place) (from w i)) (λ g j. Ok ((i.place, g), j)) y p h in
      subst (λ (z : (ℕ × Gathered) × Input). Grouped k due least before i z.0 z.1) (same_pair (i.place, a.value) y a.place p a.second) (record {
        began = refl;
        group = gathered_says d w (λ n. P n due least) (part due least) (λ i x p. PS due least i x p g) k due before i a.value a.place small a.first;
      })

  -- their list
  pub is_list : (k : Repetition) (due : Sort) (least : ℕ) (before : Before) (i : Spot) (y : ℕ × Gathered) (p : Input) (G : Grouped k due least before i y p) (n : ℕ) → y.1.height ≤ n
      → IsList (IsGroup k due (P n due least) before w) (list_from y.0 y.1).tree i G.group.place
  is_list k due least before i y p G n le =
      (y.1.trees, (ap (λ m. forests.node the_list (spanned m y.1.last) y.1.trees) G.began ∙ ap (λ m. forests.node the_list (spanned i.place m) y.1.trees) G.group.last, G.group.spelled n le))

  group_then : (k : Repetition) (due : Sort) (least : ℕ) (before : Before) (ps : List Piece) (i : Spot) (x : Listed) (p : Input) → is_ended_by k ≡ false → is_small k ≡ true → ok due least ≡ true
      → ((b : Before) (m : Spot) (y : Listed) (q : Input) → read body d (pieces_in part own f b ps) (from w m) ≡ Ok (y, q) → Lists b ps m y q)
      → read body d (gathered k due (part due least) before >>= λ g. pieces_in part own f (before_by (has_none g.1.trees)) ps >>= λ h. Give (with_first (list_from g.0 g.1) h)) (from w i) ≡ Ok (x, p)
      → Lists before (Group k due least ∷ ps) i x p
  group_then k due least before ps i x p e small g rest h =
      let a = split (read body d (gathered k due (part due least) before) (from w i)) (λ g j. read body d (pieces_in part own f (before_by (has_none g.1.trees)) ps >>= λ h. Give (with_first (list_from g.0 g.1) h)) j) x p h in
      let G = group_of k due least before i a.value a.place small g a.first in
      let t : ℕ × Gathered = a.value in
      let b = split (read body d (pieces_in part own f (before_by (has_none t.1.trees)) ps) a.place) (λ h j. Ok (with_first (list_from t.0 t.1) h, j)) x p a.second in
      let B = rest (before_by (has_none t.1.trees)) G.group.place b.value b.place
      (subst (λ k. read body d (pieces_in part own f (before_by (has_none t.1.trees)) ps) k ≡ Ok (b.value, b.place)) (ends_there w k G.group.place t.1.is_ended a.place e G.group.ends) b.first) in
      subst (λ (y : Listed × Input). Lists before (Group k due least ∷ ps) i y.0 y.1) (same_pair (with_first (list_from t.0 t.1) b.value) x b.place p b.second) (record {
        place = B.place;
        placed = B.placed;
        high = omega (arith, G.group.high, B.high);
        spelled = λ n le. record {
          first = (list_from t.0 t.1).tree;
          others = b.value.trees;
          place = G.group.place;
          value = refl;
          is_first = is_list k due least before i t a.place G n (omega arith);
          are_others = subst (λ e. Matches (P n) w own f (before_by e) ps b.value.trees G.group.place B.place) (none_alike t.1.trees) (B.spelled n (omega arith));
        };
      })

  -- what follows a list that ends in a separator or not
  after_ended : (c e b : Class) (due : Sort) (least : ℕ) (before : Before) (ps : List Piece) (i : Spot) (x : Listed) (t : ℕ × Gathered) (q p : Input) (o : Bool) → class_number c ≡ class_number b
      → (began : t.0 ≡ i.place) (place : Spot) → Ends w (Ended c e) place o q → t.1.last ≡ place.place → t.1.height ≤ d
      → ((n : ℕ) → t.1.height ≤ n → IsGroup (Ended c e) due (P n due least) before w t.1.trees i place)
      → ((m : Spot) (y : Listed) (q : Input) → read body d (pieces_in part own f Usual ps) (from w m) ≡ Ok (y, q) → Lists Usual ps m y q)
      → ((m : Spot) (y : Listed) (q : Input) → read body d (pieces_in part own f Usual (Maybe b ∷ ps)) (from w m) ≡ Ok (y, q) → Lists Usual (Maybe b ∷ ps) m y q)
      → read body d (choose o (pieces_in part own f Usual ps) (pieces_in part own f Usual (Maybe b ∷ ps)) >>= λ h. Give (with_first (list_from t.0 t.1) h)) q ≡ Ok (x, p)
      → Lists before (Group (Ended c e) due least ∷ (Maybe b ∷ ps)) i x p
  after_ended c e b due least before ps i x t q p true same began place E last high S bare maybe h =
      let a = split (read body d (pieces_in part own f Usual ps) q) (λ h j. Ok (with_first (list_from t.0 t.1) h, j)) x p h in
      let B = bare (step place) a.value a.place (subst (λ k. read body d (pieces_in part own f Usual ps) k ≡ Ok (a.value, a.place)) E.1 a.first) in
      subst (λ (y : Listed × Input). Lists before (Group (Ended c e) due least ∷ (Maybe b ∷ ps)) i y.0 y.1) (same_pair (with_first (list_from t.0 t.1) a.value) x a.place p a.second) (record {
        place = B.place;
        placed = B.placed;
        high = omega (arith, B.high);
        spelled = λ n le. record {
          first = (list_from t.0 t.1).tree;
          others = a.value.trees;
          place = place;
          value = refl;
          is_first = (t.1.trees, (ap (λ m. forests.node the_list (spanned m t.1.last) t.1.trees) began ∙ ap (λ m. forests.node the_list (spanned i.place m) t.1.trees) last, S n (omega arith)));
          are_others = inl (E.0 ∙ same, B.spelled n (omega arith));
        };
      })
  after_ended c e b due least before ps i x t q p false same began place E last high S bare maybe h =
      let a = split (read body d (pieces_in part own f Usual (Maybe b ∷ ps)) q) (λ h j. Ok (with_first (list_from t.0 t.1) h, j)) x p h in
      let B = maybe place a.value a.place (subst (λ k. read body d (pieces_in part own f Usual (Maybe b ∷ ps)) k ≡ Ok (a.value, a.place)) E a.first) in
      subst (λ (y : Listed × Input). Lists before (Group (Ended c e) due least ∷ (Maybe b ∷ ps)) i y.0 y.1) (same_pair (with_first (list_from t.0 t.1) a.value) x a.place p a.second) (record {
        place = B.place;
        placed = B.placed;
        high = omega (arith, B.high);
        spelled = λ n le. record {
          first = (list_from t.0 t.1).tree;
          others = a.value.trees;
          place = place;
          value = refl;
          is_first = (t.1.trees, (ap (λ m. forests.node the_list (spanned m t.1.last) t.1.trees) began ∙ ap (λ m. forests.node the_list (spanned i.place m) t.1.trees) last, S n (omega arith)));
          are_others = B.spelled n (omega arith);
        };
      })

  ended_then : (c e b : Class) (due : Sort) (least : ℕ) (before : Before) (ps : List Piece) (i : Spot) (x : Listed) (p : Input) → class_number c ≡ class_number b → ok due least ≡ true
      → ((m : Spot) (y : Listed) (q : Input) → read body d (pieces_in part own f Usual ps) (from w m) ≡ Ok (y, q) → Lists Usual ps m y q)
      → ((m : Spot) (y : Listed) (q : Input) → read body d (pieces_in part own f Usual (Maybe b ∷ ps)) (from w m) ≡ Ok (y, q) → Lists Usual (Maybe b ∷ ps) m y q)
      → read body d (gathered (Ended c e) due (part due least) before >>= λ g. choose g.1.is_ended (pieces_in part own f Usual ps) (pieces_in part own f Usual (Maybe b ∷ ps)) >>= λ h. Give (with_first (list_from g.0 g.1) h)) (from w i) ≡ Ok (x, p)
      → Lists before (Group (Ended c e) due least ∷ (Maybe b ∷ ps)) i x p
  ended_then c e b due least before ps i x p same g bare maybe h =
      let a = split (read body d (gathered (Ended c e) due (part due least) before) (from w i))
      (λ g j. read body d (choose g.1.is_ended (pieces_in part own f Usual ps) (pieces_in part own f Usual (Maybe b ∷ ps)) >>= λ h. Give (with_first (list_from g.0 g.1) h)) j) x p h in
      let G = group_of (Ended c e) due least before i a.value a.place refl g a.first in
      after_ended c e b due least before ps i x a.value a.place p a.value.1.is_ended same G.began G.group.place G.group.ends G.group.last G.group.high G.group.spelled bare maybe a.second

  -- ---- all pieces

  maybe_then : (c : Class) (before : Before) (ps : List Piece) (i : Spot) (x : Listed) (p : Input) (b : Bool) → nat_eq (class_at w i) (class_number c) ≡ b
      → ((m : Spot) (y : Listed) (q : Input) → read body d (pieces_in part own f Usual ps) (from w m) ≡ Ok (y, q) → Lists Usual ps m y q)
      → read body d (choose b (Next (pieces_in part own f Usual ps)) (pieces_in part own f Usual ps)) (from w i) ≡ Ok (x, p) → Lists before (Maybe c ∷ ps) i x p
  maybe_then c before ps i x p true e rest h = let S = rest (step i) x p h in
      record { place = S.place; placed = S.placed; high = S.high; spelled = λ n le. inl (same_class (class_at w i) (class_number c) e, S.spelled n le) }
  maybe_then c before ps i x p false e rest h = let S = rest i x p h in
      record { place = S.place; placed = S.placed; high = S.high; spelled = λ n le. inr (S.spelled n le) }

  happened : (e : Event) (before : Before) (ps : List Piece) (i : Spot) (x : Listed) (p : Input) (b : Bool) → may_happen e i.state ≡ b
      → ((m : Spot) (y : Listed) (q : Input) → read body d (pieces_in part own f before ps) (from w m) ≡ Ok (y, q) → Lists before ps m y q)
      → read body d (choose b (Change e (pieces_in part own f before ps)) Refuse) (from w i) ≡ Ok (x, p) → Lists before (Then e ∷ ps) i x p
  happened e before ps i x p true y rest h = let S = rest (turned (happens e) i) x p h in
      record { place = S.place; placed = S.placed; high = S.high; spelled = λ n le. (y, S.spelled n le) }
  happened e before ps i x p false y rest h = absurd (cc h)

  pub pieces_say : (before : Before) (ps : List Piece) (i : Spot) (x : Listed) (p : Input) → fine ok own ps ≡ true → read body d (pieces_in part own f before ps) (from w i) ≡ Ok (x, p) → Lists before ps i x p
  unfolding pieces_in
  pieces_say before [] i x p F h = subst (λ (y : Listed × Input). Lists before [] i y.0 y.1) (same_pair nothing x (from w i) p h) (record { place = i; placed = refl; high = omega arith; spelled = λ n le. (refl, refl) })
  pieces_say before (Token c ∷ ps) i x p F h =
      let a = split (pick (only (nat_eq (class_at w i) (class_number c))) (from w i)) (λ _ j. read body d (pieces_in part own f Usual ps) j) x p h in
      let T = picked (nat_eq (class_at w i) (class_number c)) a.value (from w i) a.place a.first in
      let S = pieces_say Usual ps (step i) x p F (subst (λ k. read body d (pieces_in part own f Usual ps) k ≡ Ok (x, p)) T.1 a.second) in
      record { place = S.place; placed = S.placed; high = S.high; spelled = λ n le. (same_class (class_at w i) (class_number c) T.0, S.spelled n le) }
  pieces_say before (Maybe c ∷ ps) i x p F h = maybe_then c before ps i x p (nat_eq (class_at w i) (class_number c)) refl (λ m y q. pieces_say Usual ps m y q F) h
  pieces_say before (One due least ∷ ps) i x p F h = let f = both _ _ F in one_then due least before ps i x p f.0 (λ b m y q. pieces_say b ps m y q f.1) h
  pieces_say before (Then e ∷ ps) i x p F h = happened e before ps i x p (may_happen e i.state) refl (λ m y q. pieces_say before ps m y q F) h
  pieces_say before (Group Optional due least ∷ ps) i x p F h = let f = both _ _ F in group_then Optional due least before ps i x p refl refl f.0 (λ b m y q. pieces_say b ps m y q f.1) h
  pieces_say before (Group Greedy due least ∷ ps) i x p F h = let f = both _ _ F in group_then Greedy due least before ps i x p refl refl f.0 (λ b m y q. pieces_say b ps m y q f.1) h
  pieces_say before (Group Due due least ∷ ps) i x p F h = let f = both _ _ F in group_then Due due least before ps i x p refl refl f.0 (λ b m y q. pieces_say b ps m y q f.1) h
  pieces_say before (Group All due least ∷ ps) i x p F h = let f = both _ _ F in group_then All due least before ps i x p refl refl f.0 (λ b m y q. pieces_say b ps m y q f.1) h
  pieces_say before (Group Any due least ∷ ps) i x p F h = let f = both _ _ F in group_then Any due least before ps i x p refl refl f.0 (λ b m y q. pieces_say b ps m y q f.1) h
  pieces_say before (Group (Many separator l) due least ∷ ps) i x p F h = let z = both _ _ F in let f = both _ _ z.1 in
      group_then (Many separator l) due least before ps i x p refl (both _ _ z.0).0 f.0 (λ b m y q. pieces_say b ps m y q f.1) h
  pieces_say before (Group (Spliced separator l) due least ∷ ps) i x p F h = let z = both _ _ F in let f = both _ _ z.1 in
      group_then (Spliced separator l) due least before ps i x p refl (both _ _ z.0).0 f.0 (λ b m y q. pieces_say b ps m y q f.1) h
  pieces_say before (Group (Ended c e) due least ∷ (Maybe b ∷ ps)) i x p F h = let z = both _ _ F in let f = both _ _ z.1 in
      ended_then c e b due least before ps i x p (same_class (class_number c) (class_number b) z.0) f.0 (λ m y q. pieces_say Usual ps m y q f.1) (λ m y q. pieces_say Usual (Maybe b ∷ ps) m y q f.1) h
  pieces_say before _ i x p F h = absurd (cc F)

  pub row_says : (ps : List Piece) (i : Spot) (x : Listed) (p : Input) → fine_first ok own ps ≡ true → Holds f ps (raw_at w i.place) → read body d (pieces_in part own f Usual ps) (from w i) ≡ Ok (x, p) → Lists Usual ps i x p
  unfolding pieces_in
  row_says (Own ∷ ps) i x p F o h =
      let a = split (pick (only (has (held_class f) (class_at w i))) (from w i)) (λ _ j. read body d (pieces_in part own f Usual ps) j) x p h in
      let T = picked (has (held_class f) (class_at w i)) a.value (from w i) a.place a.first in
      let S = pieces_say Usual ps (step i) x p F (subst (λ k. read body d (pieces_in part own f Usual ps) k ≡ Ok (x, p)) T.1 a.second) in
      record { place = S.place; placed = S.placed; high = S.high; spelled = λ n le. ((o, T.0), S.spelled n le) }
  row_says [] i x p F o h = pieces_say Usual [] i x p F h
  row_says (q ∷ ps) i x p F o h = pieces_say Usual (q ∷ ps) i x p F h

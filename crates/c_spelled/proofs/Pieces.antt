-- What spells the pieces of a row is read.
use Rattle.std.proofs.Common.{◌≡◌, inl, inr, refl, subst, ap, sym, ◌∙◌, ℕ, ◌<◌, ◌≤◌, max, not, Bool, true, false, ◌&&◌, List, [], ◌∷◌, ◌++◌, nat_eq, Some, Ok, arith}
use Rattle.c_tokens.specs.declared.token.Shape.{Shape}
use Rattle.c_tokens.specs.declared.class.Class.{Class}
use Rattle.c_tokens.specs.ClassNumbers.{class_number}
use Rattle.c_forms.specs.declared.pieces.Sort.{Sort}
use Rattle.c_forms.specs.declared.pieces.Repetition.{Repetition}
use Rattle.c_forms.specs.declared.pieces.Repetition.TheVariants.{Optional, Greedy, Due, All, Any, Many, Spliced, Ended}
use Rattle.c_forms.specs.declared.pieces.Piece.{Piece}
use Rattle.c_forms.specs.declared.pieces.Piece.TheVariants.{Token, Maybe, Own, TypeTokens, KindName, One, Group, Rest, Anything, Then}
use Rattle.c_forms.specs.declared.forms.Form.{Form}
use Rattle.c_forms.specs.Forests.{Plain, forest}
use Rattle.c_forms.specs.Forests as forests
use Rattle.c_forms.specs.Rules.{is_none}
use Rattle.c_forms.specs.Sets.{Classes, has, given, starts, may_be_empty, goes_on, held_class}
use Rattle.c_reader.specs.States.{happens}
use Rattle.c_reader.specs.Tokens.{Spot, step, turned, seen_at, class_at}
use Rattle.c_reader.specs.Readers.{Reader, Outcome, Body, Give, Refuse, Next, Change, read, and_then, pick, choose, only, ◌>>=◌}
use Rattle.std.proofs.lemmas.Bool.{or_left, or_right}
use Rattle.c_reader.proofs.Local.{from}
use Rattle.c_reader.proofs.Sets.{both, not_true, itself, single, same_class}
use Rattle.c_syntax.specs.Allowed.{may_happen}
use Rattle.c_syntax.specs.Reading.{Listed, Parts, Gathered, nothing, with_first, list_from, the_list, spanned, gathered, gathered_by, many, Before, Usual, before_by, is_absent, inside, is_class, pieces_in}
use Rattle.c_syntax.specs.Spells.{Spelling, Is, IsGroup, Parted, IsList, Matches}
use Rattle.c_spelled.specs.Fitting.{parted, is_read, opens, blank, reads, is_due, group_goes_on, absent_ends, follows, need, needs, elements_fit, between_fits, group_fits, is_ended_by, fitting}
use Rattle.c_spelled.proofs.Off.{Off, on_here, off, off_left, off_right, off_given}
use Rattle.c_spelled.proofs.Opens.{Starts, starts_so}
use Rattle.c_spelled.proofs.Begins.{AllBegin}
use Rattle.c_spelled.proofs.Groups.{Got, GotAll, listed, group_read, ended_read, is_unended}

-- a spelling is read by parts, to trees of no more than a height, where no more than n nodes lie in one another
abbrev pub AllRead : Body → ℕ → ℕ → List Shape → ℕ → Spelling → Parts → Type 0
AllRead body d top w n P part = (due : Sort) (least : ℕ) (t : Plain) (i j : Spot) → is_read due ≡ true → need due ≤ n → P due least t i j → Off (goes_on due least) w j.place → Got (read body d (part due least) (from w i)) top t w j

abbrev pub side_by_side : List Plain → ℕ → Listed
side_by_side ts height = record { trees = ts; height = height }

-- it answers these trees, of no more than this height
pub record GotParts (o : Outcome Listed) (top : ℕ) (ts : List Plain) (w : List Shape) (j : Spot) : Type 0 where
  pub height : ℕ
  pub low : height ≤ top
  pub reads : o ≡ Ok (side_by_side ts height, from w j)

pub is_it : (w : List Shape) (c : Class) (i : Spot) → Is w c i → is_class c (seen_at w i) ≡ true
is_it w c i x = ap (λ n. nat_eq n (class_number c)) x ∙ itself (class_number c)

by_false : (b : Bool) → (b ≡ true → ⊥) → b ≡ false
by_false true f = absurd (f refl)
by_false false f = refl

pub is_not : (w : List Shape) (c : Class) (i : Spot) → Off (class_number c ∷ []) w i.place → is_class c (seen_at w i) ≡ false
is_not w c i o = by_false (is_class c (seen_at w i)) (λ y.
    let t : has (class_number c ∷ []) (class_at w i) ≡ true = single (class_number c) (class_at w i) (same_class (class_at w i) (class_number c) y) in
    let f : true ≡ false = sym t ∙ o i.state in cc f)

off_head : (b : Bool) (a : Classes) (c : Classes) (w : List Shape) (place : ℕ) → b ≡ true → Off (given b a ++ c) w place → Off a w place
off_head b a c w place e o = off_given b a w place e (off_left (given b a) c w place o)

abbrev has_none : List Plain → Bool
has_none [] = true
has_none (t ∷ ts) = false

no_trees : (ts : List Plain) → is_none (forest ts) ≡ has_none ts
no_trees [] = refl
no_trees (t ∷ ts) = refl

module _ (body : Body) (d top : ℕ) (w : List Shape) (n : ℕ) (P : Spelling) (part : Parts) (B : AllBegin w P) (E : AllRead body d top w n P part) where
  -- what follows does not go on, where it has a token or not
  pub ends_off : (own : Sort) (f : Form) (before : Before) (ps : List Piece) (a : Classes) (k j : Spot) → parted (opens own f ps) a ≡ true → Starts w own f before ps k j → (blank own before ps ≡ true → Off a w j.place) → Off a w k.place
  ends_off own f before ps a k j p (inl o) b = off (opens own f ps) a w k.place p (record { state = o.state; isin = o.isin })
  ends_off own f before ps a k j p (inr e) b = subst (λ n. Off a w n) (sym e.same) (b e.may)

  -- nothing before makes pieces blank that are not so otherwise
  usually : (own : Sort) (before : Before) (ps : List Piece) → blank own before ps ≡ true → blank own Usual ps ≡ true
  usually own before [] h = refl
  usually own before (Maybe c ∷ ps) h = h
  usually own before (Then e ∷ ps) h = usually own before ps h
  usually own before (One due least ∷ ps) h = h
  usually own before (Group Due due least ∷ ps) h = (both _ _ h).1
  usually own before (Group Optional due least ∷ ps) h = h
  usually own before (Group Greedy due least ∷ ps) h = h
  usually own before (Group All due least ∷ ps) h = h
  usually own before (Group Any due least ∷ ps) h = h
  usually own before (Group (Many s n) due least ∷ ps) h = h
  usually own before (Group (Spliced s n) due least ∷ ps) h = h
  usually own before (Group (Ended s e) due least ∷ ps) h = h
  usually own before (Token c ∷ ps) h = absurd (cc h)
  usually own before (Own ∷ ps) h = absurd (cc h)
  usually own before (TypeTokens ∷ ps) h = absurd (cc h)
  usually own before (KindName ∷ ps) h = absurd (cc h)
  usually own before (Rest due ∷ ps) h = absurd (cc h)
  usually own before (Anything ∷ ps) h = absurd (cc h)

  -- where a repetition is absent, what is due after it is there
  not_due : (own : Sort) (ps : List Piece) → blank own (before_by true) ps ≡ true → not (is_due ps) ≡ true
  not_due own (Group Due due least ∷ ps) h = absurd (cc h)
  not_due own [] h = refl
  not_due own _ h = refl

  element_begins : (due : Sort) (least : ℕ) → (is_read due && not (may_be_empty due)) ≡ true → (t : Plain) (i j : Spot) → P due least t i j → (has (starts due) (class_at w i) ≡ true) × (i.place < j.place)
  element_begins due least r t i j p = let k = both (is_read due) _ r in elim (B due least t i j k.0 p) [
    | inl b ↦ b
    | inr e ↦ absurd (let f : true ≡ false = sym e.0 ∙ not_true (may_be_empty due) k.1 in cc f)
  ]

  element_read : (due : Sort) (least : ℕ) → (is_read due && not (may_be_empty due)) ≡ true → need due ≤ n → (t : Plain) (i j : Spot) → P due least t i j → Off (goes_on due least) w j.place → Got (read body d (part due least) (from w i)) top t w j
  element_read due least r low t i j p o = E due least t i j (both (is_read due) _ r).0 low p o

  abbrev after_group : Sort → Form → List Piece → ℕ × Gathered → Reader Listed
  after_group own f ps g = pieces_in part own f (before_by (has_none g.1.trees)) ps >>= λ h. Give (with_first (list_from g.0 g.1) h)

  -- a list, and what follows it
  in_order : (own : Sort) (f : Form) (ps : List Piece) (us others ts : List Plain) (t : Plain) (i k j : Spot) (o : Outcome (ℕ × Gathered)) (q : Outcome Listed) → t ≡ forests.node the_list (spanned i.place k.place) us → ts ≡ t ∷ others
      → (height : ℕ) → height ≤ top → o ≡ Ok ((i.place, listed us height k.place false), from w k) → q ≡ and_then o (λ g j. read body d (after_group own f ps g) j)
      → GotParts (read body d (pieces_in part own f (before_by (is_none (forest us))) ps) (from w k)) top others w j → GotParts q top ts w j
  in_order own f ps us others ts t i k j o q v v' height low e e' H = record {
    height = max height H.height;
    low = omega (arith, low, H.low);
    reads = e' ∙ ap (λ o. and_then o (λ g j. read body d (after_group own f ps g) j)) e
        ∙ ap (λ o. and_then o (λ h j. Ok (with_first (list_from i.place (listed us height k.place false)) h, j))) (ap (λ b. read body d (pieces_in part own f (before_by b) ps) (from w k)) (sym (no_trees us)) ∙ H.reads)
        ∙ ap (λ us. Ok (side_by_side us (max height H.height), from w j)) (ap (λ t. t ∷ others) (sym v) ∙ sym v');
  }

  in_gathered : (r : Repetition) (due : Sort) (least : ℕ) (before : Before) (i : Spot) (g : Gathered) (k : Spot) → read body d (gathered_by r due (part due least) before i.place) (from w i) ≡ Ok (g, from w k)
      → read body d (gathered r due (part due least) before) (from w i) ≡ Ok ((i.place, g), from w k)
  unfolding gathered
  in_gathered r due least before i g k e = ap (λ o. and_then o (λ g j. Ok ((i.place, g), j))) e

  grouped : (own : Sort) (f : Form) (r : Repetition) (due : Sort) (least : ℕ) (before : Before) (ps : List Piece) (ts : List Plain) (i j : Spot)
      → is_unended r ≡ true → (is_read due && not (may_be_empty due)) ≡ true → need due ≤ n → reads own ps ≡ true → (elements_fit r due least && parted (opens own f ps) (group_goes_on r due least ++ absent_ends r due)) ≡ true
      → Off (given (blank own Usual ps) (group_goes_on r due least ++ given (not (is_due ps)) (absent_ends r due)) ++ follows own ps) w j.place
      → (M : Parted (IsList (IsGroup r due (P due least) before w)) (λ t. Matches P w own f (before_by (is_none t.parts)) ps) ts i j)
      → ((before : Before) (ts : List Plain) (k : Spot) → Matches P w own f before ps ts k j → GotParts (read body d (pieces_in part own f before ps) (from w k)) top ts w j)
      → (q : Outcome Listed) → q ≡ and_then (read body d (gathered r due (part due least) before) (from w i)) (λ g j. read body d (after_group own f ps g) j) → GotParts q top ts w j
  grouped own f r due least before ps ts i j U r' few R F o M rest q e =
      let fit = both (elements_fit r due least) _ F in
      let us : List Plain = M.is_first.0 in
      let k : Spot = M.place in
      let here : Matches P w own f (before_by (is_none (forest us))) ps M.others k j = subst (λ (t : Plain). Matches P w own f (before_by (is_none t.parts)) ps M.others k j) M.is_first.1.0 M.are_others in
      let begun : Starts w own f (before_by (is_none (forest us))) ps k j = starts_so w P B own f (before_by (is_none (forest us))) ps M.others k j R here in
      let all = group_goes_on r due least in
      let out : Off all w k.place = elim begun [
        | inl s ↦ off_left all (absent_ends r due) w k.place (off (opens own f ps) (all ++ absent_ends r due) w k.place fit.1 (record { state = s.state; isin = s.isin }))
        | inr b ↦ subst (λ n. Off all w n) (sym b.same) (off_left all _ w j.place (off_head (blank own Usual ps) (all ++ given (not (is_due ps)) (absent_ends r due)) (follows own ps) w j.place (usually own (before_by (is_none (forest us))) ps b.may) o))
      ] in
      let gone : us ≡ [] → Off (absent_ends r due) w k.place = λ z. elim begun [
        | inl s ↦ off_right all (absent_ends r due) w k.place (off (opens own f ps) (all ++ absent_ends r due) w k.place fit.1 (record { state = s.state; isin = s.isin }))
        | inr b ↦ subst (λ n. Off (absent_ends r due) w n) (sym b.same) (off_given (not (is_due ps)) (absent_ends r due) w j.place
            (not_due own ps (ap (λ us. blank own (before_by (is_none (forest us))) ps) (sym z) ∙ b.may))
            (off_right all _ w j.place (off_head (blank own Usual ps) (all ++ given (not (is_due ps)) (absent_ends r due)) (follows own ps) w j.place (usually own (before_by (is_none (forest us))) ps b.may) o)))
      ] in
      let G : GotAll (read body d (gathered_by r due (part due least) before i.place) (from w i)) top us false k.place w k =
      group_read body d top w due least (P due least) (part due least) (element_begins due least r') (element_read due least r' few) r before us i k U fit.0 M.is_first.1.1 out gone in
      in_order own f ps us M.others ts M.first i k j _ q M.is_first.1.0 M.value G.height G.low (in_gathered r due least before i (listed us G.height k.place false) k G.reads) e
      (rest (before_by (is_none (forest us))) M.others k here)

  abbrev after_end : Sort → Form → Piece → List Piece → ℕ × Gathered → Reader Listed
  after_end own f p ps g = choose g.1.is_ended (pieces_in part own f Usual ps) (pieces_in part own f Usual (p ∷ ps)) >>= λ h. Give (with_first (list_from g.0 g.1) h)

  -- a list that may end in its separator, and what follows it
  end_follows : (own : Sort) (f : Form) (s e : Class) (due : Sort) (least : ℕ) (before : Before) (c z : Class) (ps : List Piece) (ts : List Plain) (i j : Spot)
      → (is_read due && not (may_be_empty due)) ≡ true → need due ≤ n → group_fits own f (Ended s e) due least (Maybe c ∷ (Token z ∷ ps)) ≡ true
      → (M : Parted (IsList (IsGroup (Ended s e) due (P due least) before w)) (λ t. Matches P w own f (before_by (is_none t.parts)) (Maybe c ∷ (Token z ∷ ps))) ts i j)
      → ((before : Before) (ts : List Plain) (k : Spot) → Matches P w own f before (Token z ∷ ps) ts k j → GotParts (read body d (pieces_in part own f before (Token z ∷ ps)) (from w k)) top ts w j)
      → ((before : Before) (ts : List Plain) (k : Spot) → Matches P w own f before (Maybe c ∷ (Token z ∷ ps)) ts k j → GotParts (read body d (pieces_in part own f before (Maybe c ∷ (Token z ∷ ps))) (from w k)) top ts w j)
      → GotParts (read body d (pieces_in part own f before (Group (Ended s e) due least ∷ (Maybe c ∷ (Token z ∷ ps)))) (from w i)) top ts w j
  unfolding pieces_in many
  end_follows own f s e due least before c z ps ts i j r' few F M short long =
      let fits = both (elements_fit (Ended s e) due least && parted (class_number s ∷ (class_number e ∷ [])) (goes_on due least)) _ F in
      let fit = both (elements_fit (Ended s e) due least) _ fits.0 in
      let inner = both (between_fits (Some s) due least) _ fit.0 in
      let named = both (is_ended_by s e (Maybe c ∷ (Token z ∷ ps))) _ fits.1 in
      let same = both (nat_eq (class_number c) (class_number s)) _ named.0 in
      let is_s : class_number c ≡ class_number s = same_class (class_number c) (class_number s) same.0 in
      let is_e : class_number z ≡ class_number e = same_class (class_number z) (class_number e) same.1 in
      let us : List Plain = M.is_first.0 in
      let k : Spot = M.place in
      let both_set : List ℕ = class_number s ∷ (class_number e ∷ []) in
      let in_s : Is w c k → has both_set (class_at w k) ≡ true = λ x. ap (has both_set) (x ∙ is_s) ∙ or_left (nat_eq (class_number s) (class_number s)) _ (itself (class_number s)) in
      let in_e : Is w z k → has both_set (class_at w k) ≡ true = λ x. ap (has both_set) (x ∙ is_e) ∙ or_right (nat_eq (class_number s) (class_number e)) _ (or_left (nat_eq (class_number e) (class_number e)) false (itself (class_number e))) in
      let out : has both_set (class_at w k) ≡ true → Off (goes_on due least) w k.place = λ x. off both_set (goes_on due least) w k.place fit.1 (on_here both_set w k x) in
      let G : Off (goes_on due least) w k.place → _ = λ o. ended_read body d top w due least (P due least) (part due least) (element_begins due least r') (element_read due least r' few) s e inner.0 inner.1 us i.place i k M.is_first.1.1 o in
      elim (M.are_others) [
        | inl O ↦ let A : GotAll (read body d (gathered_by (Ended s e) due (part due least) before i.place) (from w i)) top us true k.place w (step k) = (G (out (in_s O.0))).1 (O.0 ∙ is_s) (O.1.0 ∙ is_e) in
            let H : GotParts (read body d (pieces_in part own f Usual (Token z ∷ ps)) (from w (step k))) top M.others w j = short Usual M.others (step k) O.1 in
            record {
              height = max A.height H.height;
              low = omega (arith, A.low, H.low);
              reads = ap (λ o. and_then o (λ g j. read body d (after_end own f (Maybe c) (Token z ∷ ps) g) j)) (in_gathered (Ended s e) due least before i (listed us A.height k.place true) (step k) A.reads)
                  ∙ ap (λ o. and_then o (λ h j. Ok (with_first (list_from i.place (listed us A.height k.place true)) h, j))) H.reads
                  ∙ ap (λ us. Ok (side_by_side us (max A.height H.height), from w j)) (ap (λ t. t ∷ M.others) (sym M.is_first.1.0) ∙ sym M.value);
            }
        | inr O ↦ let A : GotAll (read body d (gathered_by (Ended s e) due (part due least) before i.place) (from w i)) top us false k.place w k = (G (out (in_e O.0))).0
            (ap (λ n. nat_eq n (class_number s)) (O.0 ∙ is_e) ∙ not_true (nat_eq (class_number e) (class_number s)) named.1) in
            let H : GotParts (read body d (pieces_in part own f Usual (Maybe c ∷ (Token z ∷ ps))) (from w k)) top M.others w j = long Usual M.others k (inr O) in
            record {
              height = max A.height H.height;
              low = omega (arith, A.low, H.low);
              reads = ap (λ o. and_then o (λ g j. read body d (after_end own f (Maybe c) (Token z ∷ ps) g) j)) (in_gathered (Ended s e) due least before i (listed us A.height k.place false) k A.reads)
                  ∙ ap (λ o. and_then o (λ h j. Ok (with_first (list_from i.place (listed us A.height k.place false)) h, j))) H.reads
                  ∙ ap (λ us. Ok (side_by_side us (max A.height H.height), from w j)) (ap (λ t. t ∷ M.others) (sym M.is_first.1.0) ∙ sym M.value);
            }
      ]

  ended_part : (own : Sort) (f : Form) (s e : Class) (due : Sort) (least : ℕ) (ps : List Piece) → group_fits own f (Ended s e) due least ps ≡ true → is_ended_by s e ps ≡ true
  ended_part own f s e due least ps F = (both (is_ended_by s e ps) _ (both (elements_fit (Ended s e) due least && parted (class_number s ∷ (class_number e ∷ [])) (goes_on due least)) _ F).1).0

  past_maybe : (own : Sort) (c : Class) (ps : List Piece) (place : ℕ) → Off (follows own (Maybe c ∷ ps)) w place → Off (follows own ps) w place
  past_maybe own c ps place o = off_right (given (blank own Usual ps) (class_number c ∷ [])) (follows own ps) w place o

  past_one : (own due : Sort) (least : ℕ) (ps : List Piece) (place : ℕ) → Off (follows own (One due least ∷ ps)) w place → Off (follows own ps) w place
  past_one own due least ps place o = off_right (given (blank own Usual ps) (goes_on (inside own due) least)) (follows own ps) w place o

  past_group : (own : Sort) (r : Repetition) (due : Sort) (least : ℕ) (ps : List Piece) (place : ℕ) → Off (follows own (Group r due least ∷ ps)) w place → Off (follows own ps) w place
  past_group own r due least ps place o = off_right (given (blank own Usual ps) (group_goes_on r due least ++ given (not (is_due ps)) (absent_ends r due))) (follows own ps) w place o

  -- after a token that is there
  token_on : (b : Bool) (r : Reader Listed) (i : Spot) → b ≡ true → and_then (pick (only b) (from w i)) (λ _ j. read body d r j) ≡ read body d r (from w (step i))
  token_on true r i e = refl
  token_on false r i e = absurd (cc e)

  maybe_at : (b c : Bool) (r q : Reader Listed) (i : Spot) → b ≡ c → read body d (choose b r q) (from w i) ≡ read body d (choose c r q) (from w i)
  maybe_at b c r q i e = ap (λ b. read body d (choose b r q) (from w i)) e

  same_parts : {o q : Outcome Listed} (ts : List Plain) (j : Spot) → o ≡ q → GotParts q top ts w j → GotParts o top ts w j
  same_parts ts j e G = record { height = G.height; low = G.low; reads = e ∙ G.reads }

  pub pieces_read : (own : Sort) (f : Form) (before : Before) (ps : List Piece) (ts : List Plain) (i j : Spot) → reads own ps ≡ true → needs own ps ≤ n → fitting own f ps ≡ true → Off (follows own ps) w j.place
      → Matches P w own f before ps ts i j → GotParts (read body d (pieces_in part own f before ps) (from w i)) top ts w j
  unfolding pieces_in
  pieces_read own f before [] ts i j R N F o M = record { height = 0; low = omega arith; reads = ap (λ k. Ok (nothing, from w k)) M.1 ∙ ap (λ us. Ok (side_by_side us 0, from w j)) (sym M.0) }
  pieces_read own f before (Token c ∷ ps) ts i j R N F o M =
      same_parts ts j (token_on (is_class c (seen_at w i)) (pieces_in part own f Usual ps) i (is_it w c i M.0)) (pieces_read own f Usual ps ts (step i) j R N F o M.1)
  pieces_read own f before (Maybe c ∷ ps) ts i j R N F o (inl M) =
      same_parts ts j (maybe_at (is_class c (seen_at w i)) true (Next (pieces_in part own f Usual ps)) (pieces_in part own f Usual ps) i (is_it w c i M.0))
      (pieces_read own f Usual ps ts (step i) j R N (both (parted (opens own f ps) (class_number c ∷ [])) _ F).1 (past_maybe own c ps j.place o) M.1)
  pieces_read own f before (Maybe c ∷ ps) ts i j R N F o (inr M) =
      let fit = both (parted (opens own f ps) (class_number c ∷ [])) _ F in
      let out : Off (class_number c ∷ []) w i.place = ends_off own f Usual ps (class_number c ∷ []) i j fit.0 (starts_so w P B own f Usual ps ts i j R M) (λ b. off_head (blank own Usual ps) (class_number c ∷ []) (follows own ps) w j.place b o) in
      same_parts ts j (maybe_at (is_class c (seen_at w i)) false (Next (pieces_in part own f Usual ps)) (pieces_in part own f Usual ps) i (is_not w c i out))
      (pieces_read own f Usual ps ts i j R N fit.1 (past_maybe own c ps j.place o) M)
  pieces_read own f before (Own ∷ ps) ts i j R N F o M =
      same_parts ts j (token_on (has (held_class f) (class_at w i)) (pieces_in part own f Usual ps) i M.0.1) (pieces_read own f Usual ps ts (step i) j R N F o M.1)
  pieces_read own f before (One due least ∷ ps) ts i j R N F o M =
      let r = both (is_read (inside own due)) _ R in
      let fit = both (parted (opens own f ps) (goes_on (inside own due) least)) _ F in
      let next : Before = before_by (is_absent M.first) in
      let out : Off (goes_on (inside own due) least) w M.place.place = ends_off own f next ps (goes_on (inside own due) least) M.place j fit.0 (starts_so w P B own f next ps M.others M.place j r.1 M.are_others)
      (λ b. off_head (blank own Usual ps) (goes_on (inside own due) least) (follows own ps) w j.place (usually own next ps b) o) in
      let G : Got (read body d (part (inside own due) least) (from w i)) top M.first w M.place = E (inside own due) least M.first i M.place r.0 (omega (arith, N)) M.is_first out in
      let H : GotParts (read body d (pieces_in part own f next ps) (from w M.place)) top M.others w j = pieces_read own f next ps M.others M.place j r.1 (omega (arith, N)) fit.1 (past_one own due least ps j.place o) M.are_others in
      record {
        height = max G.height H.height;
        low = omega (arith, G.low, H.low);
        reads = ap (λ o. and_then o (λ x j. read body d (pieces_in part own f (before_by (is_absent x.tree)) ps >>= λ g. Give (with_first x g)) j)) G.reads
            ∙ ap (λ o. and_then o (λ g j. Ok (with_first (record { tree = M.first; height = G.height }) g, j))) H.reads
            ∙ ap (λ us. Ok (side_by_side us (max G.height H.height), from w j)) (sym M.value);
      }
  pieces_read own f before (Group (Ended s e) due least ∷ (Maybe c ∷ (Token z ∷ ps))) ts i j R N F o M =
      let r = both (is_read due && not (may_be_empty due)) _ R in
      let fit = both (group_fits own f (Ended s e) due least (Maybe c ∷ (Token z ∷ ps))) _ F in
      let out = past_group own (Ended s e) due least (Maybe c ∷ (Token z ∷ ps)) j.place o in
      end_follows own f s e due least before c z ps ts i j r.0 (omega (arith, N)) fit.0 M (λ before ts k M. pieces_read own f before (Token z ∷ ps) ts k j r.1 (omega (arith, N)) (both (parted (opens own f (Token z ∷ ps)) (class_number c ∷ [])) _ fit.1).1 (past_maybe own c (Token z ∷ ps) j.place out) M)
      (λ before ts k M. pieces_read own f before (Maybe c ∷ (Token z ∷ ps)) ts k j r.1 (omega (arith, N)) fit.1 out M)
  pieces_read own f before (Group (Ended s e) due least ∷ ps) ts i j R N F o M = absurd (cc (ended_part own f s e due least ps (both (group_fits own f (Ended s e) due least ps) _ F).0))
  pieces_read own f before (Group Optional due least ∷ ps) ts i j R N F o M = let r = both (is_read due && not (may_be_empty due)) _ R in let k = both (group_fits own f Optional due least ps) _ F in
      grouped own f Optional due least before ps ts i j refl r.0 (omega (arith, N)) r.1 k.0 o M (λ before ts k' M. pieces_read own f before ps ts k' j r.1 (omega (arith, N)) k.1 (past_group own Optional due least ps j.place o) M) _ refl
  pieces_read own f before (Group Greedy due least ∷ ps) ts i j R N F o M = let r = both (is_read due && not (may_be_empty due)) _ R in let k = both (group_fits own f Greedy due least ps) _ F in
      grouped own f Greedy due least before ps ts i j refl r.0 (omega (arith, N)) r.1 k.0 o M (λ before ts k' M. pieces_read own f before ps ts k' j r.1 (omega (arith, N)) k.1 (past_group own Greedy due least ps j.place o) M) _ refl
  pieces_read own f before (Group Due due least ∷ ps) ts i j R N F o M = let r = both (is_read due && not (may_be_empty due)) _ R in let k = both (group_fits own f Due due least ps) _ F in
      grouped own f Due due least before ps ts i j refl r.0 (omega (arith, N)) r.1 k.0 o M (λ before ts k' M. pieces_read own f before ps ts k' j r.1 (omega (arith, N)) k.1 (past_group own Due due least ps j.place o) M) _ refl
  pieces_read own f before (Group All due least ∷ ps) ts i j R N F o M = let r = both (is_read due && not (may_be_empty due)) _ R in let k = both (group_fits own f All due least ps) _ F in
      grouped own f All due least before ps ts i j refl r.0 (omega (arith, N)) r.1 k.0 o M (λ before ts k' M. pieces_read own f before ps ts k' j r.1 (omega (arith, N)) k.1 (past_group own All due least ps j.place o) M) _ refl
  pieces_read own f before (Group Any due least ∷ ps) ts i j R N F o M = let r = both (is_read due && not (may_be_empty due)) _ R in let k = both (group_fits own f Any due least ps) _ F in
      grouped own f Any due least before ps ts i j refl r.0 (omega (arith, N)) r.1 k.0 o M (λ before ts k' M. pieces_read own f before ps ts k' j r.1 (omega (arith, N)) k.1 (past_group own Any due least ps j.place o) M) _ refl
  pieces_read own f before (Group (Many s n) due least ∷ ps) ts i j R N F o M = let r = both (is_read due && not (may_be_empty due)) _ R in let k = both (group_fits own f (Many s n) due least ps) _ F in
      grouped own f (Many s n) due least before ps ts i j refl r.0 (omega (arith, N)) r.1 k.0 o M (λ before ts k' M. pieces_read own f before ps ts k' j r.1 (omega (arith, N)) k.1 (past_group own (Many s n) due least ps j.place o) M) _ refl
  pieces_read own f before (Group (Spliced s n) due least ∷ ps) ts i j R N F o M = let r = both (is_read due && not (may_be_empty due)) _ R in let k = both (group_fits own f (Spliced s n) due least ps) _ F in
      grouped own f (Spliced s n) due least before ps ts i j refl r.0 (omega (arith, N)) r.1 k.0 o M (λ before ts k' M. pieces_read own f before ps ts k' j r.1 (omega (arith, N)) k.1 (past_group own (Spliced s n) due least ps j.place o) M) _ refl
  pieces_read own f before (Then e ∷ ps) ts i j R N F o M =
      same_parts ts j (maybe_at (may_happen e i.state) true (Change e (pieces_in part own f before ps)) Refuse i M.0) (pieces_read own f before ps ts (turned (happens e) i) j R N F o M.1)
  pieces_read own f before (TypeTokens ∷ ps) ts i j R N F o M = absurd M
  pieces_read own f before (KindName ∷ ps) ts i j R N F o M = absurd M
  pieces_read own f before (Rest due ∷ ps) ts i j R N F o M = absurd M
  pieces_read own f before (Anything ∷ ps) ts i j R N F o M = absurd M

-- What spells the pieces of a row begins with a class of those that open it, or has no token.
use Rattle.std.proofs.Common.{◌≡◌, ◌⊎◌, inl, inr, refl, subst, ap, sym, ◌∙◌, ℕ, zero, suc, ◌<◌, ◌≤◌, not, Bool, true, false, ◌||◌, ◌&&◌, List, [], ◌∷◌, ◌++◌, nat_eq, Option, Some, None, arith}
use Rattle.std.proofs.lemmas.Bool.{and_from}
use Rattle.c_tokens.specs.declared.token.Shape.{Shape}
use Rattle.c_tokens.specs.declared.class.Class.{Class}
use Rattle.c_tokens.specs.ClassNumbers.{class_number}
use Rattle.c_forms.specs.declared.pieces.Sort.{Sort}
use Rattle.c_forms.specs.declared.pieces.Repetition.{Repetition}
use Rattle.c_forms.specs.declared.pieces.Repetition.TheVariants.{Optional, Greedy, Due, All, Any, Many, Spliced, Ended}
use Rattle.c_forms.specs.declared.pieces.Piece.{Piece}
use Rattle.c_forms.specs.declared.pieces.Piece.TheVariants.{Token, Maybe, Own, TypeTokens, KindName, One, Group, Rest, Anything, Then}
use Rattle.c_forms.specs.declared.forms.Form.{Form}
use Rattle.c_forms.specs.Forests.{Plain, forest}
use Rattle.c_forms.specs.Sets.{Classes, has, given, starts, may_be_empty, is_optional}
use Rattle.c_forms.specs.Rules.{is_none}
use Rattle.c_reader.specs.States.{State, class, happens}
use Rattle.c_reader.specs.Tokens.{Spot, step, turned, raw_at, class_at}
use Rattle.c_syntax.specs.Reading.{Before, Usual, before_by, is_absent, inside}
use Rattle.c_syntax.specs.Spells.{Spelling, Separated, Chain, Once, IsGroup, Matches}
use Rattle.c_reader.proofs.Sets.{both, single, has_left, has_right}
use Rattle.c_spelled.specs.Fitting.{is_read, is_nameless, opens, is_due_after, blank, is_calm, reads}

-- a tree begins with a class of its sort, or has no token
abbrev pub Begun : List Shape → Sort → Plain → Spot → Spot → Type 0
Begun w due t i j = ((has (starts due) (class_at w i) ≡ true) × (i.place < j.place)) ⊎ ((may_be_empty due ≡ true) × (i ≡ j) × (is_absent t ≡ is_nameless due))

pub record Opened (w : List Shape) (own : Sort) (f : Form) (ps : List Piece) (i j : Spot) : Type 0 where
  pub state : State
  pub isin : has (opens own f ps) (class state (raw_at w i.place)) ≡ true
  pub calm : is_calm own ps ≡ true → state ≡ i.state
  pub less : i.place < j.place

pub record Blank (own : Sort) (before : Before) (ps : List Piece) (i j : Spot) : Type 0 where
  pub may : blank own before ps ≡ true
  pub same : i.place ≡ j.place
  pub calm : is_calm own ps ≡ true → i ≡ j

abbrev pub Starts : List Shape → Sort → Form → Before → List Piece → Spot → Spot → Type 0
Starts w own f before ps i j = Opened w own f ps i j ⊎ Blank own before ps i j

pub onward : {w : List Shape} {own : Sort} {f : Form} {before : Before} {ps : List Piece} {i j : Spot} → Starts w own f before ps i j → i.place ≤ j.place
onward (inl o) = omega (arith, o.less)
onward (inr b) = omega (arith, b.same)

-- a group begins with an element, or has none
pub record NoElement (r : Repetition) (before : Before) (ts : List Plain) (i j : Spot) : Type 0 where
  pub may : is_optional r ≡ true
  pub none : ts ≡ []
  pub same : i ≡ j
  pub undue : is_due_after r before ≡ false

abbrev pub GroupStarts : List Shape → Repetition → Sort → Before → List Plain → Spot → Spot → Type 0
GroupStarts w r due before ts i j = ((has (starts due) (class_at w i) ≡ true) × (i.place < j.place)) ⊎ NoElement r before ts i j

module _ (w : List Shape) (due : Sort) (one : Plain → Spot → Spot → Type 0) (B : (t : Plain) (i j : Spot) → one t i j → (has (starts due) (class_at w i) ≡ true) × (i.place < j.place)) where
  abbrev Begins : Spot → Spot → Type 0
  Begins i j = (has (starts due) (class_at w i) ≡ true) × (i.place < j.place)

  separated_onward : (c : Option Class) (i j : Spot) → Separated w c i j → i.place ≤ j.place
  separated_onward None i j s = omega (arith, ap (λ (k : Spot). k.place) s)
  separated_onward (Some c) i j s = omega (arith, ap (λ (k : Spot). k.place) s.1)

  pub chain_begins : (c : Option Class) (n : ℕ) (ts : List Plain) (i j : Spot) → Chain one w c n ts i j → Begins i j
  chain_begins c zero ts i j C = B C.0 i j C.1.1
  chain_begins c (suc n) ts i j C = let h : Begins i C.place = chain_begins c n C.before i C.place C.first in
      (h.0, omega (arith, h.1, separated_onward c C.place C.next C.between, (B C.last C.next j C.second).1))

  pub once_begins : (ts : List Plain) (i j : Spot) → Once one ts i j → Begins i j
  once_begins ts i j O = B O.0 i j O.1.1

  pub group_begins : (r : Repetition) (before : Before) (ts : List Plain) (i j : Spot) → IsGroup r due one before w ts i j → GroupStarts w r due before ts i j
  group_begins Optional before ts i j (inl A) = inr (record { may = refl; none = A.0; same = A.1; undue = refl })
  group_begins Optional before ts i j (inr O) = inl (once_begins ts i j O)
  group_begins Greedy before ts i j (inl A) = inr (record { may = refl; none = A.1.0; same = A.1.1; undue = refl })
  group_begins Greedy before ts i j (inr O) = inl (once_begins ts i j O)
  group_begins Due before ts i j (inl A) = inr (record { may = refl; none = A.1.0; same = A.1.1; undue = A.0 })
  group_begins Due before ts i j (inr O) = inl (once_begins ts i j O)
  group_begins All before ts i j G = inl (chain_begins None G.0.0 ts i j G.0.1)
  group_begins Any before ts i j G = elim (G.0) [
    | inl A ↦ inr (record { may = refl; none = A.1.0; same = A.1.1; undue = refl })
    | inr C ↦ inl (chain_begins None C.0 ts i j C.1)
  ]
  group_begins (Many c least) before ts i j (inl A) = inr (record { may = ap (λ n. nat_eq n 0) A.0; none = A.1.0; same = A.1.1; undue = refl })
  group_begins (Many c least) before ts i j (inr C) = inl (chain_begins c C.0 ts i j C.1)
  group_begins (Spliced c least) before ts i j (inl A) = inr (record { may = ap (λ n. nat_eq n 0) A.0; none = A.1.0; same = A.1.1; undue = refl })
  group_begins (Spliced c least) before ts i j (inr C) = inl (chain_begins c C.0 ts i j C.1)
  group_begins (Ended c e) before ts i j C = inl (chain_begins (Some c) C.0 ts i j C.1)

-- ---- pieces

not_empty : (b : Bool) → not b ≡ true → b ≡ true → ⊥
not_empty true h k = cc h
not_empty false h k = cc k

given_on : (b : Bool) (a : Classes) (c : ℕ) → b ≡ true → has a c ≡ true → has (given b a) c ≡ true
given_on true a c e h = h
given_on false a c e h = absurd (cc e)

or_second : (a b : Bool) → a ≡ true → (not a || b) ≡ true → b ≡ true
or_second true b e h = h
or_second false b e h = absurd (cc e)

module _ (w : List Shape) (P : Spelling) (B : (due : Sort) (least : ℕ) (t : Plain) (i j : Spot) → is_read due ≡ true → P due least t i j → Begun w due t i j) where
  element_begins : (due : Sort) (least : ℕ) → (is_read due && not (may_be_empty due)) ≡ true → (t : Plain) (i j : Spot) → P due least t i j → (has (starts due) (class_at w i) ≡ true) × (i.place < j.place)
  element_begins due least r t i j p = let k = both (is_read due) _ r in elim (B due least t i j k.0 p) [
    | inl b ↦ b
    | inr e ↦ absurd (not_empty (may_be_empty due) k.1 e.0)
  ]

  after_empty : (own : Sort) (f : Form) (q : Piece) (before before' : Before) (ps : List Piece) (i k j : Spot) (b : Bool) (a : Classes) → b ≡ true → opens own f (q ∷ ps) ≡ a ++ given b (opens own f ps)
      → (is_calm own (q ∷ ps) ≡ true → is_calm own ps ≡ true) → (blank own before' ps ≡ true → blank own before (q ∷ ps) ≡ true) → i ≡ k → Starts w own f before' ps k j → Starts w own f before (q ∷ ps) i j
  after_empty own f q before before' ps i k j b a e opened calm blanks same (inl o) = inl (record {
    state = o.state;
    isin = subst (λ (i : Spot). has (opens own f (q ∷ ps)) (class o.state (raw_at w i.place)) ≡ true) (sym same)
        (ap (λ s. has s (class o.state (raw_at w k.place))) opened ∙ has_right a (given b (opens own f ps)) _ (given_on b (opens own f ps) _ e o.isin));
    calm = λ c. o.calm (calm c) ∙ ap (λ (k : Spot). k.state) (sym same);
    less = omega (arith, o.less, ap (λ (k : Spot). k.place) same);
  })
  after_empty own f q before before' ps i k j b a e opened calm blanks same (inr o) = inr (record {
    may = blanks o.may;
    same = ap (λ (k : Spot). k.place) same ∙ o.same;
    calm = λ c. same ∙ o.calm (calm c);
  })

  pub starts_so : (own : Sort) (f : Form) (before : Before) (ps : List Piece) (ts : List Plain) (i j : Spot) → reads own ps ≡ true → Matches P w own f before ps ts i j → Starts w own f before ps i j
  starts_so own f before [] ts i j r M = inr (record { may = refl; same = ap (λ (k : Spot). k.place) M.1; calm = λ c. M.1 })
  starts_so own f before (Token c ∷ ps) ts i j r M = let o = onward (starts_so own f Usual ps ts (step i) j r M.1) in
      inl (record { state = i.state; isin = single (class_number c) (class_at w i) M.0; calm = λ c. refl; less = omega (arith, o) })
  starts_so own f before (Maybe c ∷ ps) ts i j r (inl M) = let o = onward (starts_so own f Usual ps ts (step i) j r M.1) in
      inl (record { state = i.state; isin = has_left (class_number c ∷ []) (opens own f ps) (class_at w i) (single (class_number c) (class_at w i) M.0); calm = λ c. refl; less = omega (arith, o) })
  starts_so own f before (Maybe c ∷ ps) ts i j r (inr M) =
      after_empty own f (Maybe c) before Usual ps i i j true (class_number c ∷ []) refl refl (λ c. c) (λ b. b) refl (starts_so own f Usual ps ts i j r M)
  starts_so own f before (Own ∷ ps) ts i j r M = let o = onward (starts_so own f Usual ps ts (step i) j r M.1) in
      inl (record { state = i.state; isin = M.0.1; calm = λ c. refl; less = omega (arith, o) })
  starts_so own f before (One due least ∷ ps) ts i j r M = let k = both (is_read (inside own due)) _ r in let rest = starts_so own f (before_by (is_absent M.first)) ps M.others M.place j k.1 M.are_others in
      elim (B (inside own due) least M.first i M.place k.0 M.is_first) [
        | inl b ↦ inl (record { state = i.state; isin = has_left (starts (inside own due)) _ (class_at w i) b.0; calm = λ c. refl; less = omega (arith, b.1, onward rest) })
        | inr e ↦ after_empty own f (One due least) before (before_by (is_absent M.first)) ps i M.place j (may_be_empty (inside own due)) (starts (inside own due)) e.0 refl
            (or_second (may_be_empty (inside own due)) (is_calm own ps) e.0) (λ h. and_from (may_be_empty (inside own due)) _ e.0 (ap (λ b. blank own (before_by b) ps) (sym e.2) ∙ h)) e.1 rest
      ]
  starts_so own f before (Group r due least ∷ ps) ts i j k M = let k' = both (is_read due && not (may_be_empty due)) _ k in
      let rest = starts_so own f (before_by (is_none M.first.parts)) ps M.others M.place j k'.1 M.are_others in
      elim (group_begins w due (P due least) (element_begins due least k'.0) r before M.is_first.0 i M.place M.is_first.1.1) [
        | inl b ↦ inl (record { state = i.state; isin = has_left (starts due) _ (class_at w i) b.0; calm = λ c. refl; less = omega (arith, b.1, onward rest) })
        | inr e ↦ let none : is_none M.first.parts ≡ true = ap (λ (t : Plain). is_none t.parts) M.is_first.1.0 ∙ ap (λ ts. is_none (forest ts)) e.none in
            after_empty own f (Group r due least) before (before_by (is_none M.first.parts)) ps i M.place j (is_optional r) (starts due) e.may refl
            (or_second (is_optional r) (is_calm own ps) e.may) (λ h. and_from (is_optional r) _ e.may (and_from (not (is_due_after r before)) _ (ap not e.undue) (ap (λ b. blank own (before_by b) ps) (sym none) ∙ h))) e.same rest
      ]
  starts_so own f before (Then e ∷ ps) ts i j r M = elim (starts_so own f before ps ts (turned (happens e) i) j r M.1) [
    | inl o ↦ inl (record { state = o.state; isin = o.isin; calm = λ c. absurd (cc c); less = o.less })
    | inr o ↦ inr (record { may = o.may; same = o.same; calm = λ c. absurd (cc c) })
  ]
  starts_so own f before (TypeTokens ∷ ps) ts i j r M = absurd M
  starts_so own f before (KindName ∷ ps) ts i j r M = absurd M
  starts_so own f before (Rest due ∷ ps) ts i j r M = absurd M
  starts_so own f before (Anything ∷ ps) ts i j r M = absurd M

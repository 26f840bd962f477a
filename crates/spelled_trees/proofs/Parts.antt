-- What holds of each element of a group, and how many there are.
use Rattle.std.proofs.Common.{◌≡◌, inl, inr, refl, ap, sym, ℕ, zero, suc, ◌+◌, ◌≤◌, Bool, true, false, ◌&&◌, List, [], ◌∷◌, ◌++◌, Option, Some, None, nat_lt, arith}
use Rattle.c_tokens.specs.declared.token.Shape.{Shape}
use Rattle.c_tokens.specs.declared.class.Class.{Class}
use Rattle.c_forms.specs.declared.pieces.Sort.{Sort}
use Rattle.c_forms.specs.declared.pieces.Repetition.{Repetition}
use Rattle.c_forms.specs.declared.pieces.Repetition.TheVariants.{Optional, Greedy, Due, All, Any, Many, Spliced, Ended}
use Rattle.c_forms.specs.Forests.{Plain, forest}
use Rattle.c_forms.specs.Fits.{number, least_of, is_single}
use Rattle.c_reader.specs.Tokens.{Spot}
use Rattle.c_syntax.specs.Reading.{Before}
use Rattle.c_syntax.specs.Spells.{Separated, Chain, Absent, Once, AnyNumber, IsGroup}

pub both : (a b : Bool) → a ≡ true → b ≡ true → (a && b) ≡ true
both true true h k = refl
both true false h k = absurd (cc k)
both false b h k = absurd (cc h)

pub left_of : (a b : Bool) → (a && b) ≡ true → a ≡ true
left_of true b h = refl
left_of false b h = absurd (cc h)

pub right_of : (a b : Bool) → (a && b) ≡ true → b ≡ true
right_of true b h = h
right_of false b h = absurd (cc h)

-- each tree of a list is such
abbrev pub Each : (Plain → Type 0) → List Plain → Type 0
Each Q [] = Unit {0}
Each Q (t ∷ ts) = Q t × Each Q ts

pub each_append : (Q : Plain → Type 0) (ts : List Plain) (t : Plain) → Each Q ts → Q t → Each Q (ts ++ (t ∷ []))
each_append Q [] t E q = (q, tt)
each_append Q (x ∷ ts) t E q = (E.0, each_append Q ts t E.1 q)

-- a repetition whose least number is 0 or 1
abbrev pub is_low : Repetition → Bool
is_low (Many separator least) = nat_lt least 2
is_low (Spliced separator least) = nat_lt least 2
is_low r = true

number_append : (ts : List Plain) (t : Plain) → number (forest (ts ++ (t ∷ []))) ≡ number (forest ts) + 1
number_append [] t = refl
number_append (x ∷ ts) t = ap (λ n. n + 1) (number_append ts t)

-- as many trees as a repetition asks for
pub record Numbered (r : Repetition) (ts : List Plain) : Type 0 where
  pub least : nat_lt (least_of r) (number (forest ts) + 1) ≡ true
  pub most : is_single r ≡ true → nat_lt (number (forest ts)) 2 ≡ true

module _ (w : List Shape) (one : Plain → Spot → Spot → Type 0) where
  some : (c : Option Class) (n : ℕ) (ts : List Plain) (i j : Spot) → Chain one w c n ts i j → 1 ≤ number (forest ts)
  some c zero ts i j C = rw C.1.0 (omega arith)
  some c (suc n) ts i j C = rw (C.value, number_append C.before C.last) (omega arith)

  zero_least : (k : ℕ) → nat_lt 0 (k + 1) ≡ true
  zero_least k = grind (arith)

  at_least : (m k : ℕ) → nat_lt m 2 ≡ true → 1 ≤ k → nat_lt m (k + 1) ≡ true
  at_least m k h l = grind (arith)

  module _ (Q : Plain → Type 0) (each : (t : Plain) (i j : Spot) → one t i j → Q t) where
    pub chain_each : (c : Option Class) (n : ℕ) (ts : List Plain) (i j : Spot) → Chain one w c n ts i j → Each Q ts
    chain_each c zero ts i j C = rw C.1.0 (each C.0 i j C.1.1, tt)
    chain_each c (suc n) ts i j C = rw C.value (each_append Q C.before C.last (chain_each c n C.before i C.place C.first) (each C.last C.next j C.second))

    once_each : (ts : List Plain) (i j : Spot) → Once one ts i j → Each Q ts
    once_each ts i j O = rw O.1.0 (each O.0 i j O.1.1, tt)

    none_each : (ts : List Plain) (i j : Spot) → Absent ts i j → Each Q ts
    none_each ts i j A = rw A.0 tt

    any_each : (least : ℕ) (c : Option Class) (ts : List Plain) (i j : Spot) → AnyNumber least one w c ts i j → Each Q ts
    any_each least c ts i j (inl A) = none_each ts i j A.1
    any_each least c ts i j (inr E) = chain_each c E.0 ts i j E.1

    pub group_each : (r : Repetition) (due : Sort) (before : Before) (ts : List Plain) (i j : Spot) → IsGroup r due one before w ts i j → Each Q ts
    group_each Optional due before ts i j (inl A) = none_each ts i j A
    group_each Optional due before ts i j (inr O) = once_each ts i j O
    group_each Greedy due before ts i j (inl A) = none_each ts i j A.1
    group_each Greedy due before ts i j (inr O) = once_each ts i j O
    group_each Due due before ts i j (inl A) = none_each ts i j A.1
    group_each Due due before ts i j (inr O) = once_each ts i j O
    group_each All due before ts i j G = chain_each None G.0.0 ts i j G.0.1
    group_each Any due before ts i j G = any_each 0 None ts i j G.0
    group_each (Many c least) due before ts i j G = any_each least c ts i j G
    group_each (Spliced c least) due before ts i j G = any_each least c ts i j G
    group_each (Ended c e) due before ts i j G = chain_each (Some c) G.0 ts i j G.1

  numbered_none : (r : Repetition) (ts : List Plain) → least_of r ≡ 0 → ts ≡ [] → Numbered r ts
  numbered_none r ts l e = record { least = rw (l, e) refl; most = λ s. rw e refl }

  numbered_once : (r : Repetition) (ts : List Plain) (i j : Spot) → least_of r ≡ 0 → Once one ts i j → Numbered r ts
  numbered_once r ts i j l O = record { least = rw (l, O.1.0) refl; most = λ s. rw (O.1.0) refl }

  numbered_some : (r : Repetition) (c : Option Class) (n : ℕ) (ts : List Plain) (i j : Spot) → nat_lt (least_of r) 2 ≡ true → is_single r ≡ false → Chain one w c n ts i j → Numbered r ts
  numbered_some r c n ts i j l s C = record { least = at_least (least_of r) (number (forest ts)) l (some c n ts i j C); most = λ h. absurd (cc (s, h)) }

  pub numbered : (r : Repetition) (due : Sort) (before : Before) (ts : List Plain) (i j : Spot) → is_low r ≡ true → IsGroup r due one before w ts i j → Numbered r ts
  numbered Optional due before ts i j l (inl A) = numbered_none Optional ts refl A.0
  numbered Optional due before ts i j l (inr O) = numbered_once Optional ts i j refl O
  numbered Greedy due before ts i j l (inl A) = numbered_none Greedy ts refl A.1.0
  numbered Greedy due before ts i j l (inr O) = numbered_once Greedy ts i j refl O
  numbered Due due before ts i j l (inl A) = numbered_none Due ts refl A.1.0
  numbered Due due before ts i j l (inr O) = numbered_once Due ts i j refl O
  numbered All due before ts i j l G = numbered_some All None G.0.0 ts i j refl refl G.0.1
  numbered Any due before ts i j l G = elim (G.0) [
    | inl A ↦ numbered_none Any ts refl A.1.0
    | inr E ↦ record { least = zero_least (number (forest ts)); most = λ h. absurd (cc h) }
  ]
  numbered (Many c least) due before ts i j l (inl A) = numbered_none (Many c least) ts A.0 A.1.0
  numbered (Many c least) due before ts i j l (inr E) = numbered_some (Many c least) c E.0 ts i j l refl E.1
  numbered (Spliced c least) due before ts i j l (inl A) = numbered_none (Spliced c least) ts A.0 A.1.0
  numbered (Spliced c least) due before ts i j l (inr E) = numbered_some (Spliced c least) c E.0 ts i j l refl E.1
  numbered (Ended c e) due before ts i j l G = numbered_some (Ended c e) (Some c) G.0 ts i j refl refl G.1

-- What is kept from one element to the next, where a separator changes nothing, holds of a group.
module _ (w : List Shape) (one : Plain → Spot → Spot → Type 0) (R : List Plain → Spot → Spot → Type 0) (nil : (i : Spot) → R [] i i)
    (snoc : (ts : List Plain) (t : Plain) (i j k m : Spot) → R ts i j → k.state ≡ j.state → one t k m → R (ts ++ (t ∷ [])) i m) where
  separated_state : (c : Option Class) (i j : Spot) → Separated w c i j → j.state ≡ i.state
  separated_state None i j S = ap (λ (k : Spot). k.state) (sym S)
  separated_state (Some c) i j S = ap (λ (k : Spot). k.state) (sym S.1)

  pub chain_fold : (c : Option Class) (n : ℕ) (ts : List Plain) (i j : Spot) → Chain one w c n ts i j → R ts i j
  chain_fold c zero ts i j C = rw C.1.0 (snoc [] C.0 i i i j (nil i) refl C.1.1)
  chain_fold c (suc n) ts i j C = rw C.value (snoc C.before C.last i C.place C.next j (chain_fold c n C.before i C.place C.first) (separated_state c C.place C.next C.between) C.second)

  once_fold : (ts : List Plain) (i j : Spot) → Once one ts i j → R ts i j
  once_fold ts i j O = rw O.1.0 (snoc [] O.0 i i i j (nil i) refl O.1.1)

  none_fold : (ts : List Plain) (i j : Spot) → Absent ts i j → R ts i j
  none_fold ts i j A = rw (A.0, sym A.1) (nil i)

  any_fold : (least : ℕ) (c : Option Class) (ts : List Plain) (i j : Spot) → AnyNumber least one w c ts i j → R ts i j
  any_fold least c ts i j (inl A) = none_fold ts i j A.1
  any_fold least c ts i j (inr E) = chain_fold c E.0 ts i j E.1

  pub group_fold : (r : Repetition) (due : Sort) (before : Before) (ts : List Plain) (i j : Spot) → IsGroup r due one before w ts i j → R ts i j
  group_fold Optional due before ts i j (inl A) = none_fold ts i j A
  group_fold Optional due before ts i j (inr O) = once_fold ts i j O
  group_fold Greedy due before ts i j (inl A) = none_fold ts i j A.1
  group_fold Greedy due before ts i j (inr O) = once_fold ts i j O
  group_fold Due due before ts i j (inl A) = none_fold ts i j A.1
  group_fold Due due before ts i j (inr O) = once_fold ts i j O
  group_fold All due before ts i j G = chain_fold None G.0.0 ts i j G.0.1
  group_fold Any due before ts i j G = any_fold 0 None ts i j G.0
  group_fold (Many c least) due before ts i j G = any_fold least c ts i j G
  group_fold (Spliced c least) due before ts i j G = any_fold least c ts i j G
  group_fold (Ended c e) due before ts i j G = chain_fold (Some c) G.0 ts i j G.1

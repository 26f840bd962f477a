-- A loop whose state grows, up to a bound.
use Rattle.std.proofs.Common.{◌≡◌, refl, subst, ap, sym, ◌∙◌, ℕ, zero, suc, ◌<◌, ◌≤◌, Ok, Err, arith}
use Rattle.c_reader.specs.declared.refusal.Refusal.{Refusal}
use Rattle.c_reader.specs.declared.refusal.Refusal.TheVariants.{TooDeep}
use Rattle.c_reader.specs.Readers.{Input, Outcome, Turn, More, Last, and_then, after, loop}

-- outcomes that go on alike are alike
pub goes_on : {A B : Type 0} (o : Outcome A) (f g : A → Input → Outcome B) → ((a : A) (j : Input) → o ≡ Ok (a, j) → f a j ≡ g a j) → and_then o f ≡ and_then o g
goes_on (Ok p) f g h = h p.0 p.1 refl
goes_on (Err e) f g h = refl

abbrev pub answers : {A : Type 0} → A → Input → Outcome A
answers a i = Ok (a, i)

-- what an equation between answers says of them
same_ok : {A : Type 0} (p q : A × Input) (o o' : Outcome A) → o ≡ Ok p → o' ≡ Ok q → o ≡ o' → p ≡ q
same_ok p q o o' e e' h = cc

pub same_answer : {A : Type 0} (a b : A) (i j : Input) (e : answers a i ≡ answers b j) → a ≡ b
same_answer a b i j e = ap (λ p. p.0) (same_ok (a, i) (b, j) (answers a i) (answers b j) refl refl e)

pub same_place : {A : Type 0} (a b : A) (i j : Input) (e : answers a i ≡ answers b j) → i ≡ j
same_place a b i j e = ap (λ p. p.1) (same_ok (a, i) (b, j) (answers a i) (answers b j) refl refl e)

abbrev pub Both : {A : Type 0} → A × Input → A × Input → Type 0
Both p q = p ≡ q

pub same_pair : {A : Type 0} (a b : A) (i j : Input) (e : answers a i ≡ answers b j) → Both (a, i) (b, j)
same_pair a b i j e = same_ok (a, i) (b, j) (answers a i) (answers b j) refl refl e

-- how many turns may be left falls with each turn
pub record Shrinks {S A : Type 0} (turn : S → Input → Outcome (Turn S A)) (left : S → Input → ℕ) : Type 0 where
  pub falls : (s : S) (i : Input) (t : S) (j : Input) → turn s i ≡ Ok (More t, j) → left t j < left s i

module _ {S A : Type 0} (turn : S → Input → Outcome (Turn S A)) (left : S → Input → ℕ) (G : Shrinks turn left) where
  never : (s : S) (i : Input) (f : S → Input → Outcome A) → left s i ≤ 0 → (a : Turn S A) (j : Input) → turn s i ≡ Ok (a, j)
      → after (λ _ k. Err (TooDeep k.at.place)) a j ≡ after f a j
  never s i f none (More t) j e = absurd (omega (arith, G.falls s i t j e))
  never s i f none (Last a) j e = refl

  alike : (f g : S → Input → Outcome A) (s : S) (i : Input) → ((t : S) (j : Input) → left t j < left s i → f t j ≡ g t j)
      → (a : Turn S A) (j : Input) → turn s i ≡ Ok (a, j) → after f a j ≡ after g a j
  alike f g s i h (More t) j e = h t j (G.falls s i t j e)
  alike f g s i h (Last x) j e = refl

  -- turns beyond the bound make no difference
  pub enough : (n m : ℕ) (s : S) (i : Input) → left s i ≤ n → left s i ≤ m → loop n turn s i ≡ loop m turn s i
  unfolding loop
  enough zero zero s i a b = refl
  enough zero (suc m) s i a b = goes_on (turn s i) _ _ (never s i (loop m turn) (omega arith))
  enough (suc n) zero s i a b = sym (goes_on (turn s i) _ _ (never s i (loop n turn) (omega arith)))
  enough (suc n) (suc m) s i a b = goes_on (turn s i) _ _ (alike (loop n turn) (loop m turn) s i (λ t j up. enough n m t j (omega arith) (omega arith)))

  pub goes : (n m : ℕ) (s : S) (i : Input) (t : S) (j : Input) → left s i ≤ n → left t j ≤ m → turn s i ≡ Ok (More t, j) → loop n turn s i ≡ loop m turn t j
  unfolding loop
  goes zero m s i t j a b e = absurd (omega (arith, G.falls s i t j e))
  goes (suc n) m s i t j a b e = ap (λ o. and_then o (after (loop n turn))) e ∙ enough n m t j (omega (arith, G.falls s i t j e)) b

  pub ends : (n : ℕ) (s : S) (i : Input) (a : A) (j : Input) → turn s i ≡ Ok (Last a, j) → loop n turn s i ≡ Ok (a, j)
  unfolding loop
  ends zero s i a j e = ap (λ o. and_then o (after (λ _ k. Err (TooDeep k.at.place)))) e
  ends (suc n) s i a j e = ap (λ o. and_then o (after (loop n turn))) e

  pub fails : (n : ℕ) (s : S) (i : Input) (x : Refusal) → turn s i ≡ Err x → loop n turn s i ≡ Err x
  unfolding loop
  fails zero s i x e = ap (λ o. and_then o (after (λ _ k. Err (TooDeep k.at.place)))) e
  fails (suc n) s i x e = ap (λ o. and_then o (after (loop n turn))) e

-- the parts of a reading that was put together
pub record Split {A B : Type 0} (o : Outcome B) (f : B → Input → Outcome A) (a : A) (j : Input) : Type 0 where
  pub value : B
  pub place : Input
  pub first : o ≡ Ok (value, place)
  pub second : f value place ≡ Ok (a, j)

pub split : {A B : Type 0} (o : Outcome B) (f : B → Input → Outcome A) (a : A) (j : Input) → and_then o f ≡ Ok (a, j) → Split o f a j
split (Ok p) f a j e = record { value = p.0; place = p.1; first = refl; second = e }
split (Err x) f a j e = absurd cc

-- what each turn keeps holds in the end
module _ {S A : Type 0} (turn : S → Input → Outcome (Turn S A)) (P : S → Input → Type 0) (Q : A → Input → Type 0)
    (more : (s : S) (i : Input) (t : S) (j : Input) → P s i → turn s i ≡ Ok (More t, j) → P t j)
    (last : (s : S) (i : Input) (a : A) (j : Input) → P s i → turn s i ≡ Ok (Last a, j) → Q a j) where
  in_turn : (g : S → Input → Outcome A) (s : S) (i : Input) → P s i → ((t : S) (j : Input) (a : A) (k : Input) → P t j → g t j ≡ Ok (a, k) → Q a k)
      → (r : Turn S A) (j : Input) → turn s i ≡ Ok (r, j) → (a : A) (k : Input) → after g r j ≡ Ok (a, k) → Q a k
  in_turn g s i p rec (More t) j e a k f = rec t j a k (more s i t j p e) f
  in_turn g s i p rec (Last b) j e a k f = subst (λ q. Q q.0 q.1) (same_pair b a j k f) (last s i b j p e)

  pub kept : (n : ℕ) (s : S) (i : Input) (a : A) (k : Input) → P s i → loop n turn s i ≡ Ok (a, k) → Q a k
  unfolding loop
  kept zero s i a k p e = let s' = split (turn s i) (after (λ _ j. Err (TooDeep j.at.place))) a k e in
      in_turn (λ _ j. Err (TooDeep j.at.place)) s i p (λ t j a k _ f. absurd (cc f)) s'.value s'.place s'.first a k s'.second
  kept (suc n) s i a k p e = let s' = split (turn s i) (after (loop n turn)) a k e in
      in_turn (loop n turn) s i p (kept n) s'.value s'.place s'.first a k s'.second

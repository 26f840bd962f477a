-- More levels change nothing but `TooDeep`.
use Rattle.std.proofs.Common.{◌≡◌, refl, sym, ◌∙◌, ℕ, zero, suc, ◌+◌, ◌≤◌, max, nat_lt, Bool, true, false, length, Ok, Err, arith}
use Rattle.std.proofs.lemmas.Bool.{lt-ltb}
use borrow.Author.Tests.{ltb-true}
use Rattle.c_reader.specs.declared.refusal.Refusal.TheVariants.{Memory, Syntax, TooDeep}
use Rattle.c_reader.specs.States.{happens, noted}
use Rattle.c_reader.specs.Readers.{Input, Reader, Outcome, Turn, More, Last, Rule, Body, Found, Give, Refuse, Look, Next, Pick, Note, Bind, Fits, Call, Loop, Ask, Change, run, read, below, pick, when, and_then, after, loop, here, next, change}
use Rattle.c_reader.proofs.Loops.{answers, same_answer, same_place}

-- the second is the first, if that is not for lack of levels
abbrev pub Deeper : {A : Type 0} → Outcome A → Outcome A → Type 0
Deeper (Ok p) o = o ≡ Ok p
Deeper (Err Memory) o = o ≡ Err Memory
Deeper (Err (Syntax k)) o = o ≡ Err (Syntax k)
Deeper (Err (TooDeep k)) o = Unit {0}

same : {A : Type 0} (o : Outcome A) → Deeper o o
same (Ok p) = refl
same (Err Memory) = refl
same (Err (Syntax k)) = refl
same (Err (TooDeep k)) = tt

deeper_bind : {A B : Type 0} (o q : Outcome B) (f g : B → Input → Outcome A) → Deeper o q → ((b : B) (j : Input) → Deeper (f b j) (g b j))
    → Deeper (and_then o f) (and_then q g)
deeper_bind (Ok p) q f g h k = rw h (k p.0 p.1)
deeper_bind (Err Memory) q f g h k = rw h
deeper_bind (Err (Syntax n)) q f g h k = rw h
deeper_bind (Err (TooDeep n)) q f g h k = tt

deeper_when : {A : Type 0} (b c : Bool) (o q : Outcome A) (at : ℕ) → (b ≡ true → c ≡ true) → Deeper o q → Deeper (when b o at) (when c q at)
deeper_when true c o q at up h = rw (up refl) h
deeper_when false c o q at up h = tt

deeper_after : {A S : Type 0} (f g : S → Input → Outcome A) → ((s : S) (j : Input) → Deeper (f s j) (g s j)) → (t : Turn S A) (j : Input) → Deeper (after f t j) (after g t j)
deeper_after f g h (More s) j = h s j
deeper_after f g h (Last a) j = refl

pub deeper_loop : {A S : Type 0} (p q : S → Input → Outcome (Turn S A)) → ((s : S) (j : Input) → Deeper (p s j) (q s j))
    → (n m : ℕ) (s : S) (i : Input) → n ≤ m → Deeper (loop n p s i) (loop m q s i)
unfolding loop
deeper_loop p q h zero zero s i le = deeper_bind (p s i) (q s i) _ _ (h s i) (deeper_after (λ _ j. Err (TooDeep j.at.place)) (λ _ j. Err (TooDeep j.at.place)) (λ _ _. tt))
deeper_loop p q h zero (suc m) s i le = deeper_bind (p s i) (q s i) _ _ (h s i) (deeper_after (λ _ j. Err (TooDeep j.at.place)) (loop m q) (λ _ _. tt))
deeper_loop p q h (suc n) zero s i le = absurd (omega arith)
deeper_loop p q h (suc n) (suc m) s i le = deeper_bind (p s i) (q s i) _ _ (h s i) (deeper_after (loop n p) (loop m q) (λ s j. deeper_loop p q h n m s j (omega arith)))

module _ (B C : Rule → Input → Outcome Found) (d e : ℕ) (le : d ≤ e) (h : (n : Rule) (i : Input) → Deeper (B n i) (C n i)) where
  pub deeper_run : {A : Type 0} (r : Reader A) (i : Input) → Deeper (run B d r i) (run C e r i)
  deeper_run (Give a) i = refl
  deeper_run Refuse i = refl
  deeper_run (Look f) i = deeper_run (f (here i)) i
  deeper_run (Next r) i = deeper_run r (next i)
  deeper_run (Pick f) i = same (pick (f (here i)) i)
  deeper_run (Note f) i = same (pick (f (here i)) (change (noted (here i).shape) i))
  deeper_run (Bind r f) i = deeper_bind (run B d r i) (run C e r i) _ _ (deeper_run r i) (λ b j. deeper_run (f b) j)
  deeper_run (Fits n r) i = deeper_when (nat_lt n d) (nat_lt n e) _ _ i.at.place (λ t. lt-ltb n e (omega (arith, ltb-true n d t))) (deeper_run r i)
  deeper_run (Call n) i = h n i
  deeper_run (Ask f) i = deeper_run (f i.at) i
  deeper_run (Change e r) i = deeper_run r (change (happens e) i)
  deeper_run (Loop f s) i = deeper_loop _ _ (λ s j. deeper_run (f s) j) (d + length i.tokens) (e + length i.tokens) s i (omega arith)

pub risen : {A : Type 0} (o q : Outcome A) (a : A) (j : Input) → o ≡ Ok (a, j) → Deeper o q → q ≡ Ok (a, j)
risen o q a j e h = rw e at h

refused : {A : Type 0} (o q : Outcome A) (k : ℕ) → o ≡ Err (Syntax k) → Deeper o q → q ≡ Err (Syntax k)
refused o q k e h = rw e at h

module _ (body : Body) where
  pub deeper_below : (d e : ℕ) → d ≤ e → (n : Rule) (i : Input) → Deeper (below body d n i) (below body e n i)
  unfolding below
  deeper_below zero e le n i = tt
  deeper_below (suc d) zero le n i = absurd (omega arith)
  deeper_below (suc d) (suc e) le n i = deeper_run (below body d) (below body e) d e (omega arith) (deeper_below d e (omega arith)) (body n) i

  -- with more levels an answer stays, and so does a token that is refused
  pub deeper : {A : Type 0} (d e : ℕ) → d ≤ e → (r : Reader A) (i : Input) → Deeper (read body d r i) (read body e r i)
  deeper d e le r i = deeper_run (below body d) (below body e) d e le (deeper_below d e le) r i

  pub still_ok : {A : Type 0} (d e : ℕ) → d ≤ e → (r : Reader A) (i : Input) (a : A) (j : Input) → read body d r i ≡ Ok (a, j) → read body e r i ≡ Ok (a, j)
  still_ok d e le r i a j h = risen _ _ a j h (deeper d e le r i)

  pub still_syntax : {A : Type 0} (d e : ℕ) → d ≤ e → (r : Reader A) (i : Input) (k : ℕ) → read body d r i ≡ Err (Syntax k) → read body e r i ≡ Err (Syntax k)
  still_syntax d e le r i k h = refused _ _ k h (deeper d e le r i)

  -- with whichever levels, there is one answer
  pub one_answer : {A : Type 0} (d e : ℕ) (r : Reader A) (i : Input) (a b : A) (j k : Input) → read body d r i ≡ Ok (a, j) → read body e r i ≡ Ok (b, k) → (a ≡ b) × (j ≡ k)
  one_answer d e r i a b j k h g =
      let more : ℕ = max d e in
      let same : answers a j ≡ answers b k = sym (still_ok d more (omega arith) r i a j h) ∙ still_ok e more (omega arith) r i b k g in
      (same_answer a b j k same, same_place a b j k same)

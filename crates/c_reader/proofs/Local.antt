-- What a reader answers depends on the tokens that it came to alone.
use Rattle.std.proofs.Common.{◌≡◌, inl, inr, refl, subst, ap, sym, ◌∙◌, ℕ, zero, suc, ◌+◌, ◌<◌, ◌≤◌, nat_lt, Bool, true, false, List, length, Option, Some, None, Ok, Err, arith}
use Rattle.std.proofs.lemmas.Bool.{cases_lt}
use Rattle.c_tokens.specs.declared.token.Shape.{Shape}
use Rattle.c_reader.specs.declared.refusal.Refusal.TheVariants.{Memory, Syntax, TooDeep}
use Rattle.c_reader.specs.States.{seen, happens, noted}
use Rattle.c_reader.specs.Tokens.{Spot, step, turned, seen_at, Agree}
use Rattle.c_reader.specs.Readers.{Input, Reader, Outcome, Turn, More, Last, Rule, Body, Found, Give, Refuse, Look, Next, Pick, Note, Bind, Fits, Call, Loop, Ask, Change, run, read, below, pick, when, and_then, after, loop}
pub use Rattle.c_reader.specs.Laws.{from}
use Rattle.c_reader.proofs.Loops.{Shrinks}
use Rattle.c_reader.proofs.Bounds.{Tame}

-- where an outcome was reached
abbrev pub reached : {A : Type 0} → Outcome A → ℕ
reached (Ok p) = p.1.at.place
reached (Err Memory) = 0
reached (Err (Syntax k)) = k
reached (Err (TooDeep k)) = k

-- An outcome begins no earlier than at i, over the tokens w.
abbrev pub Onward : {A : Type 0} → List Shape → ℕ → Outcome A → Type 0
Onward w i (Ok p) = (p.1 ≡ from w p.1.at) × (i ≤ p.1.at.place)
Onward w i (Err Memory) = ⊥
Onward w i (Err (Syntax k)) = i ≤ k
Onward w i (Err (TooDeep k)) = i ≤ k

later : {A : Type 0} (w : List Shape) (i j : ℕ) (o : Outcome A) → i ≤ j → Onward w j o → Onward w i o
later w i j (Ok p) le h = (h.0, omega (arith, h.1))
later w i j (Err Memory) le h = h
later w i j (Err (Syntax k)) le h = omega arith
later w i j (Err (TooDeep k)) le h = omega arith

onward_bind : {A B : Type 0} (w : List Shape) (i : ℕ) (o : Outcome B) (f : B → Input → Outcome A)
    → Onward w i o → ((b : B) (j : Spot) → Onward w j.place (f b (from w j))) → Onward w i (and_then o f)
onward_bind w i (Ok p) f h k = later w i p.1.at.place (f p.0 p.1) h.1 (subst (λ q. Onward w p.1.at.place (f p.0 q)) (sym h.0) (k p.0 p.1.at))
onward_bind w i (Err Memory) f h k = absurd h
onward_bind w i (Err (Syntax n)) f h k = h
onward_bind w i (Err (TooDeep n)) f h k = h

onward_pick : {A : Type 0} (w : List Shape) (i : Spot) (o : Option A) → Onward w i.place (pick o (from w i))
onward_pick w i (Some a) = (refl, omega arith)
onward_pick w i None = omega arith

onward_when : {A : Type 0} (w : List Shape) (i : ℕ) (b : Bool) (o : Outcome A) → Onward w i o → Onward w i (when b o i)
onward_when w i true o h = h
onward_when w i false o h = omega arith

onward_after : {A S : Type 0} (w : List Shape) (f : S → Input → Outcome A) → ((s : S) (j : Spot) → Onward w j.place (f s (from w j)))
    → (t : Turn S A) (j : Spot) → Onward w j.place (after f t (from w j))
onward_after w f h (More s) j = h s j
onward_after w f h (Last a) j = (refl, omega arith)

onward_loop : {A S : Type 0} (w : List Shape) (n : ℕ) (turn : S → Input → Outcome (Turn S A)) → ((s : S) (j : Spot) → Onward w j.place (turn s (from w j)))
    → (s : S) (i : Spot) → Onward w i.place (loop n turn s (from w i))
unfolding loop
onward_loop w zero turn h s i = onward_bind w i.place (turn s (from w i)) _ (h s i) (onward_after w (λ _ j. Err (TooDeep j.at.place)) (λ _ j. omega arith))
onward_loop w (suc n) turn h s i = onward_bind w i.place (turn s (from w i)) _ (h s i) (onward_after w (loop n turn) (onward_loop w n turn h))

onward_run : {A : Type 0} (B : Rule → Input → Outcome Found) (d : ℕ) (w : List Shape)
    → ((n : Rule) (i : Spot) → Onward w i.place (B n (from w i)))
    → (r : Reader A) (i : Spot) → Onward w i.place (run B d r (from w i))
onward_run B d w h (Give a) i = (refl, omega arith)
onward_run B d w h Refuse i = omega arith
onward_run B d w h (Look f) i = onward_run B d w h (f (seen_at w i)) i
onward_run B d w h (Next r) i = later w i.place (i.place + 1) (run B d r (from w (step i))) (omega arith) (onward_run B d w h r (step i))
onward_run B d w h (Pick f) i = onward_pick w i (f (seen_at w i))
onward_run B d w h (Note f) i = onward_pick w (turned (noted (seen_at w i).shape) i) (f (seen_at w i))
onward_run B d w h (Bind r f) i = onward_bind w i.place (run B d r (from w i)) _ (onward_run B d w h r i) (λ b j. onward_run B d w h (f b) j)
onward_run B d w h (Fits n r) i = onward_when w i.place (nat_lt n d) _ (onward_run B d w h r i)
onward_run B d w h (Call n) i = h n i
onward_run B d w h (Ask f) i = onward_run B d w h (f i) i
onward_run B d w h (Change e r) i = onward_run B d w h r (turned (happens e) i)
onward_run B d w h (Loop f s) i = onward_loop w (d + length w) _ (λ s j. onward_run B d w h (f s) j) s i

module _ (body : Body) where
  onward_below : (d : ℕ) (w : List Shape) (n : Rule) (i : Spot) → Onward w i.place (below body d n (from w i))
  unfolding below
  onward_below zero w n i = omega arith
  onward_below (suc d) w n i = onward_run (below body d) d w (onward_below d w) (body n) i

  -- the place never goes back, and the tokens stay
  pub onward : {A : Type 0} (d : ℕ) (w : List Shape) (r : Reader A) (i : Spot) → Onward w i.place (read body d r (from w i))
  onward d w r i = onward_run (below body d) d w (onward_below d w) r i

-- An outcome over w is one over v, if it was reached by the place k.
abbrev pub Same : {A : Type 0} → ℕ → List Shape → Outcome A → Outcome A → Type 0
Same k v (Ok p) o = p.1.at.place ≤ k → o ≡ Ok (p.0, from v p.1.at)
Same k v (Err Memory) o = o ≡ Err Memory
Same k v (Err (Syntax n)) o = n ≤ k → o ≡ Err (Syntax n)
Same k v (Err (TooDeep n)) o = n ≤ k → o ≡ Err (TooDeep n)

-- nothing is said past the place
past : {A : Type 0} (k : ℕ) (w v : List Shape) (i : ℕ) (o o' : Outcome A) → k < i → Onward w i o → Same k v o o'
past k w v i (Ok p) o' far h = λ near. absurd (omega (arith, h.1))
past k w v i (Err Memory) o' far h = absurd h
past k w v i (Err (Syntax n)) o' far h = λ near. absurd (omega arith)
past k w v i (Err (TooDeep n)) o' far h = λ near. absurd (omega arith)

same_bind : {A B : Type 0} (k : ℕ) (w v : List Shape) (i : ℕ) (o o' : Outcome B) (f g : B → Input → Outcome A)
    → Onward w i o → Same k v o o' → ((b : B) (j : Spot) → Onward w j.place (f b (from w j))) → ((b : B) (j : Spot) → Same k v (f b (from w j)) (g b (from v j)))
    → Same k v (and_then o f) (and_then o' g)
same_bind k w v i (Ok p) o' f g h S F G = elim (cases_lt k p.1.at.place) [
  | inl far ↦ past k w v p.1.at.place (f p.0 p.1) _ far (subst (λ q. Onward w p.1.at.place (f p.0 q)) (sym h.0) (F p.0 p.1.at))
  | inr near ↦ rw (S near) (subst (λ q. Same k v (f p.0 q) (g p.0 (from v p.1.at))) (sym h.0) (G p.0 p.1.at))
]
same_bind k w v i (Err Memory) o' f g h S F G = absurd h
same_bind k w v i (Err (Syntax n)) o' f g h S F G = λ near. rw (S near)
same_bind k w v i (Err (TooDeep n)) o' f g h S F G = λ near. rw (S near)

same_self : {A : Type 0} (k : ℕ) (v : List Shape) (j : Spot) (a : A) → Same k v (Ok (a, from v j)) (Ok (a, from v j))
same_self k v j a = λ _. refl

same_pick : {A : Type 0} (k : ℕ) (w v : List Shape) (i : Spot) (o : Option A) → Same k v (pick o (from w i)) (pick o (from v i))
same_pick k w v i (Some a) = λ _. refl
same_pick k w v i None = λ _. refl

same_when : {A : Type 0} (k : ℕ) (v : List Shape) (i : ℕ) (b : Bool) (o o' : Outcome A) → Same k v o o' → Same k v (when b o i) (when b o' i)
same_when k v i true o o' h = h
same_when k v i false o o' h = λ _. refl

same_after : {A S : Type 0} (k : ℕ) (w v : List Shape) (f g : S → Input → Outcome A) (t : Turn S A) (j : Spot)
    → ((s : S) → t ≡ More s → Same k v (f s (from w j)) (g s (from v j))) → Same k v (after f t (from w j)) (after g t (from v j))
same_after k w v f g (More s) j h = h s refl
same_after k w v f g (Last a) j h = λ _. refl

-- as same_bind, but what goes on may use what was answered
same_turn : {A B : Type 0} (k : ℕ) (w v : List Shape) (i : ℕ) (o o' : Outcome B) (f g : B → Input → Outcome A)
    → Onward w i o → Same k v o o' → ((b : B) (j : Spot) → Onward w j.place (f b (from w j)))
    → ((b : B) (j : Spot) → o ≡ Ok (b, from w j) → o' ≡ Ok (b, from v j) → Same k v (f b (from w j)) (g b (from v j)))
    → Same k v (and_then o f) (and_then o' g)
same_turn k w v i (Ok p) o' f g h S F G = elim (cases_lt k p.1.at.place) [
  | inl far ↦ past k w v p.1.at.place (f p.0 p.1) _ far (subst (λ q. Onward w p.1.at.place (f p.0 q)) (sym h.0) (F p.0 p.1.at))
  | inr near ↦ rw (S near) (subst (λ q. Same k v (f p.0 q) (g p.0 (from v p.1.at))) (sym h.0) (G p.0 p.1.at (ap (λ q. Ok (p.0, q)) h.0) (S near)))
]
same_turn k w v i (Err Memory) o' f g h S F G = absurd h
same_turn k w v i (Err (Syntax n)) o' f g h S F G = λ near. rw (S near)
same_turn k w v i (Err (TooDeep n)) o' f g h S F G = λ near. rw (S near)

same_loop : {A S : Type 0} (k : ℕ) (w v : List Shape) (p q : S → Input → Outcome (Turn S A)) (left right : S → Input → ℕ) → Shrinks p left → Shrinks q right
    → ((s : S) (j : Spot) → Onward w j.place (p s (from w j))) → ((s : S) (j : Spot) → Same k v (p s (from w j)) (q s (from v j)))
    → (n m : ℕ) (s : S) (i : Spot) → left s (from w i) ≤ n → right s (from v i) ≤ m → Same k v (loop n p s (from w i)) (loop m q s (from v i))
unfolding loop
same_loop k w v p q left right P Q on h zero zero s i a b = same_turn k w v i.place (p s (from w i)) (q s (from v i)) _ _ (on s i) (h s i)
    (onward_after w (λ _ j. Err (TooDeep j.at.place)) (λ _ j. omega arith)) (λ t j e e'. same_after k w v _ _ t j (λ u x. λ _. refl))
same_loop k w v p q left right P Q on h zero (suc m) s i a b = same_turn k w v i.place (p s (from w i)) (q s (from v i)) _ _ (on s i) (h s i)
    (onward_after w (λ _ j. Err (TooDeep j.at.place)) (λ _ j. omega arith)) (λ t j e e'. same_after k w v _ _ t j
    (λ u x. absurd (omega (arith, P.falls s (from w i) u (from w j) (e ∙ ap (λ y. Ok (y, from w j)) x)))))
same_loop k w v p q left right P Q on h (suc n) zero s i a b = same_turn k w v i.place (p s (from w i)) (q s (from v i)) _ _ (on s i) (h s i)
    (onward_after w (loop n p) (onward_loop w n p on)) (λ t j e e'. same_after k w v _ _ t j
    (λ u x. absurd (omega (arith, Q.falls s (from v i) u (from v j) (e' ∙ ap (λ y. Ok (y, from v j)) x)))))
same_loop k w v p q left right P Q on h (suc n) (suc m) s i a b = same_turn k w v i.place (p s (from w i)) (q s (from v i)) _ _ (on s i) (h s i)
    (onward_after w (loop n p) (onward_loop w n p on)) (λ t j e e'. same_after k w v _ _ t j
    (λ u x. same_loop k w v p q left right P Q on h n m u j
    (omega (arith, P.falls s (from w i) u (from w j) (e ∙ ap (λ y. Ok (y, from w j)) x)))
    (omega (arith, Q.falls s (from v i) u (from v j) (e' ∙ ap (λ y. Ok (y, from v j)) x)))))

module _ (body : Body) (k : ℕ) (w v : List Shape) (agree : Agree k w v) (d : ℕ)
    (same : (n : Rule) (i : Spot) → Same k v (below body d n (from w i)) (below body d n (from v i))) where
  seen_alike : (i : Spot) → i.place ≤ k → seen_at w i ≡ seen_at v i
  seen_alike i near = ap (seen i.state) (agree i.place near)

  same_run : {A : Type 0} (r : Reader A) (i : Spot) → Tame body r → Same k v (read body d r (from w i)) (read body d r (from v i))
  same_run (Give a) i T = λ _. refl
  same_run Refuse i T = λ _. refl
  same_run (Look f) i T = elim (cases_lt k i.place) [
    | inl far ↦ past k w v i.place (read body d (f (seen_at w i)) (from w i)) _ far (onward body d w (f (seen_at w i)) i)
    | inr near ↦ subst (λ x. Same k v (read body d (f (seen_at w i)) (from w i)) (read body d (f x) (from v i))) (seen_alike i near) (same_run (f (seen_at w i)) i (T (seen_at w i)))
  ]
  same_run (Next r) i T = same_run r (step i) T
  same_run (Pick f) i T = elim (cases_lt k i.place) [
    | inl far ↦ past k w v i.place (pick (f (seen_at w i)) (from w i)) _ far (onward_pick w i (f (seen_at w i)))
    | inr near ↦ subst (λ x. Same k v (pick (f (seen_at w i)) (from w i)) (pick (f x) (from v i))) (seen_alike i near) (same_pick k w v i (f (seen_at w i)))
  ]
  same_run (Note f) i T = elim (cases_lt k i.place) [
    | inl far ↦ past k w v i.place (pick (f (seen_at w i)) (from w (turned (noted (seen_at w i).shape) i))) _ far (onward_pick w (turned (noted (seen_at w i).shape) i) (f (seen_at w i)))
    | inr near ↦ subst (λ x. Same k v (pick (f (seen_at w i)) (from w (turned (noted (seen_at w i).shape) i))) (pick (f x) (from v (turned (noted x.shape) i)))) (seen_alike i near) (same_pick k w v (turned (noted (seen_at w i).shape) i) (f (seen_at w i)))
  ]
  same_run (Bind r f) i T = same_bind k w v i.place (read body d r (from w i)) (read body d r (from v i)) _ _ (onward body d w r i) (same_run r i T.0)
      (λ b j. onward body d w (f b) j) (λ b j. same_run (f b) j (T.1 b))
  same_run (Fits n r) i T = same_when k v i.place (nat_lt n d) _ _ (same_run r i T)
  same_run (Call n) i T = same n i
  same_run (Ask f) i T = same_run (f i) i (T i)
  same_run (Change e r) i T = same_run r (turned (happens e) i) T
  same_run (Loop f s) i T = same_loop k w v _ _ (T.0.left d) (T.0.left d) (T.0.shrinks d) (T.0.shrinks d) (λ s j. onward body d w (f s) j) (λ s j. same_run (f s) j (T.1 s))
      (d + length w) (d + length v) s i (T.0.few d s (from w i)) (T.0.few d s (from v i))

settled : {A : Type 0} (k : ℕ) (v : List Shape) (o q : Outcome A) (a : A) (m : Spot) (w : List Shape) → o ≡ Ok (a, from w m) → m.place ≤ k → Same k v o q → q ≡ Ok (a, from v m)
settled k v o q a m w e le h = (rw e at h) le

module _ (body : Body) (bodies : (n : Rule) → Tame body (body n)) where
  same_below : (k : ℕ) (w v : List Shape) → Agree k w v → (d : ℕ) (n : Rule) (i : Spot) → Same k v (below body d n (from w i)) (below body d n (from v i))
  unfolding below
  same_below k w v a zero n i = λ _. refl
  same_below k w v a (suc d) n i = same_run body k w v a d (same_below k w v a d) (body n) i (bodies n)

  -- what was answered or refused depends on the tokens through the place that was come to alone
  pub local : {A : Type 0} (k : ℕ) (w v : List Shape) → Agree k w v → (d : ℕ) (r : Reader A) (i : Spot) → Tame body r → Same k v (read body d r (from w i)) (read body d r (from v i))
  local k w v a d r i T = same_run body k w v a d (same_below k w v a d) r i T

  -- what was read of w is read of what is the same through the place after it
  pub already : {A : Type 0} (d : ℕ) (r : Reader A) (w v : List Shape) (p : ℕ) (i m : Spot) (a : A) → Tame body r → read body d r (from w i) ≡ Ok (a, from w m) → m.place ≤ p → Agree p w v → read body d r (from v i) ≡ Ok (a, from v m)
  already d r w v p i m a T e le agree = settled p v _ _ a m w e le (local p w v agree d r i T)

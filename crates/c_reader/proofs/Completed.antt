-- Tokens that complete a prefix: those of the prefix, and after them a phrase whose words are new.
use Rattle.std.proofs.Common.{◌≡◌, inl, inr, refl, subst, ap, sym, ◌∙◌, ℕ, zero, suc, ◌+◌, ◌-◌, ◌<◌, ◌≤◌, true, List, [], ◌∷◌, ◌++◌, Option, Some, None, arith}
use Rattle.std.proofs.lemmas.Bool.{cases_lt}
use Rattle.c_tokens.specs.declared.token.Shape.{Shape}
use Rattle.c_tokens.specs.declared.token.Shape.TheVariants as shape
use Rattle.c_reader.specs.States.{State, Entry, Edge, AsType, AsValue, Near, Bare, Parameters, Other, Kept, number_of}
use Rattle.c_reader.specs.Tokens.{Spot, raw_at, Agree}
use Rattle.c_reader.specs.Readers.{Reader, Rule, Body, read}
use Rattle.c_reader.specs.Laws.{from}
use Rattle.c_reader.proofs.Bounds.{Tame}
use Rattle.c_reader.proofs.Fresh.{Fresh, Lows, LowNear, LowName, Low, AllLow, Under, up_lows, up_name, up_near, up_low, up_all, up_under}
use Rattle.c_reader.proofs.Phrases.{Tokens, renewed, Here, Ends, ends_so}
use Rattle.c_reader.proofs.Leaves.{anyhow}
use Rattle.c_reader.proofs.Live.{Calls, Live, Before, Continues}
use Rattle.c_reader.proofs.LiveFrom.{live}

-- ---- the tokens through a place, and what follows them

front : List Shape → ℕ → ℕ → List Shape
front w zero k = []
front w (suc n) k = raw_at w k ∷ front w n (k + 1)

in_front : (w u : List Shape) (n k j : ℕ) → j < n → raw_at (front w n k ++ u) j ≡ raw_at w (k + j)
unfolding front
in_front w u zero k j less = absurd (omega arith)
in_front w u (suc n) k zero less = let e : k ≡ k + 0 = omega arith in ap (raw_at w) e
in_front w u (suc n) k (suc j) less = let e : k + 1 + j ≡ k + suc j = omega arith in in_front w u n (k + 1) j (omega arith) ∙ ap (raw_at w) e

past_front : (w u : List Shape) (n k m : ℕ) → raw_at (front w n k ++ u) (n + m) ≡ raw_at u m
unfolding front
past_front w u zero k m = let e : 0 + m ≡ m = omega arith in ap (raw_at u) e
past_front w u (suc n) k m = let e : suc n + m ≡ suc (n + m) = omega arith in rw e (past_front w u n (k + 1) m)

new_tokens : ℕ → List Shape → List Shape
new_tokens n [] = []
new_tokens n (x ∷ u) = renewed n x ∷ new_tokens (n + 1) u

new_small : (n : ℕ) (x : Shape) → number_of (renewed n x) < n + 1
new_small n (shape.Word w) = omega arith
new_small n _ = omega arith

all_small : (n : ℕ) (u : List Shape) (m : ℕ) → number_of (raw_at (new_tokens n u) m) < n + m + 1
unfolding new_tokens
all_small n [] m = omega arith
all_small n (x ∷ u) zero = omega (arith, new_small n x)
all_small n (x ∷ u) (suc m) = omega (arith, all_small (n + 1) u m)

here_from : (N : ℕ) (u v : List Shape) (i : ℕ) → ((m : ℕ) → raw_at v (i + m) ≡ raw_at (new_tokens (N + i) u) m) → (j : ℕ) × (Here N u v i j × (raw_at v j ≡ shape.End))
unfolding new_tokens
here_from N [] v i h = (i, (refl, (let e : i ≡ i + 0 = omega arith in ap (raw_at v) e ∙ h 0)))
here_from N (x ∷ u) v i h =
    let n : N + (i + 1) ≡ N + i + 1 = omega arith in
    let r = here_from N u v (i + 1) (λ m. let e : i + 1 + m ≡ i + suc m = omega arith in ap (raw_at v) e ∙ h (suc m) ∙ ap (λ k. raw_at (new_tokens k u) m) (sym n)) in
    let e : i ≡ i + 0 = omega arith in
    (r.0, ((ap (raw_at v) e ∙ h 0, r.1.0), r.1.1))

-- ---- what is greater than all words

entries_low : (es : List Entry) → (n : ℕ) × Lows n es
entries_low [] = (0, tt)
entries_low (Edge b ∷ es) = entries_low es
entries_low (AsType m ∷ es) = let r = entries_low es in (r.0 + m + 1, (omega arith, up_lows r.0 (r.0 + m + 1) (omega arith) es r.1))
entries_low (AsValue m ∷ es) = entries_low es

near_low : (x : Near) → (n : ℕ) × LowNear n x
near_low Bare = (0, tt)
near_low (Parameters es) = entries_low es
near_low Other = (0, tt)

name_low : (o : Option ℕ) → (n : ℕ) × LowName n o
name_low (Some m) = (m + 1, omega arith)
name_low None = (0, tt)

kept_low : (k : Kept) → (n : ℕ) × Low n k
kept_low k = let r = near_low k.near in let m = name_low k.name in (r.0 + m.0, (up_name m.0 (r.0 + m.0) (omega arith) k.name m.1, up_near r.0 (r.0 + m.0) (omega arith) k.near r.1))

all_low : (ks : List Kept) → (n : ℕ) × AllLow n ks
all_low [] = (0, tt)
all_low (k ∷ ks) = let a = kept_low k in let r = all_low ks in (a.0 + r.0, (up_low a.0 (a.0 + r.0) (omega arith) k a.1, up_all r.0 (a.0 + r.0) (omega arith) ks r.1))

state_low : (z : State) → (n : ℕ) × Under n z
state_low z =
    let a = entries_low z.entries in
    let b = kept_low z.kept in
    let c = all_low z.aside in
    let n : ℕ = a.0 + b.0 + c.0 in
    (n, (up_lows a.0 n (omega arith) z.entries a.1, (up_low b.0 n (omega arith) z.kept b.1, up_all c.0 n (omega arith) z.aside c.1)))

tokens_low : (w : List Shape) → (n : ℕ) × ((k : ℕ) → number_of (raw_at w k) < n)
tokens_low [] = (1, λ k. omega arith)
tokens_low (x ∷ w) = let r = tokens_low w in let n : ℕ = r.0 + number_of x + 1 in (n, by_place w r.0 n (omega arith) (omega arith) r.1)
  where
    by_place : (w : List Shape) (m n : ℕ) → m ≤ n → number_of x < n → ((k : ℕ) → number_of (raw_at w k) < m) → (k : ℕ) → number_of (raw_at (x ∷ w) k) < n
    by_place w m n le less f zero = less
    by_place w m n le less f (suc k) = omega (arith, f k)

-- ---- the tokens through a place, and new ones

module _ (w u : List Shape) (p N M : ℕ) (le : M ≤ N) (few : (k : ℕ) → number_of (raw_at w k) < M) where
  continued : List Shape
  continued = front w (p + 1) 0 ++ new_tokens (N + (p + 1)) u

  continued_rising : (k : ℕ) → number_of (raw_at continued k) < N + k + 1
  unfolding continued
  continued_rising k = elim (cases_lt k (p + 1)) [
    | inl less ↦ (let e : raw_at continued k ≡ raw_at w k = in_front w (new_tokens (N + (p + 1)) u) (p + 1) 0 k less ∙ (let f : 0 + k ≡ k = omega arith in ap (raw_at w) f) in
        subst (λ x. number_of x < N + k + 1) (sym e) (omega (arith, few k)))
    | inr past ↦ (let m : ℕ = k - (p + 1) in let f : p + 1 + m ≡ k = omega arith in
        let e : raw_at continued k ≡ raw_at (new_tokens (N + (p + 1)) u) m = ap (raw_at continued) (sym f) ∙ past_front w (new_tokens (N + (p + 1)) u) (p + 1) 0 m in
        subst (λ x. number_of x < N + k + 1) (sym e) (omega (arith, all_small (N + (p + 1)) u m)))
  ]

-- tokens that are the same through a place, and that the reader takes up to their end
pub record Whole {A : Type 0} (body : Body) (r : Reader A) (i : Spot) (w : List Shape) (p : ℕ) : Type 0 where
  pub source : List Shape
  pub agrees : Agree p w source
  pub place : ℕ
  pub ends : Ends body anyhow r source i place
  pub at_end : raw_at source place ≡ shape.End

-- what continues can be continued up to the end
pub whole : {A : Type 0} (body : Body) (Q : Tokens) (J : A → State → Type 0) (r : Reader A) (w : List Shape) (i : Spot) (p : ℕ) → Q shape.End ≡ true → Continues body Q J r w i p → Whole body r i w p
whole body Q J r w i p quiet C =
    let known = state_low i.state in
    let said = tokens_low w in
    let N : ℕ = known.0 + said.0 + 1 in
    let v : List Shape = front w (p + 1) 0 ++ new_tokens (N + (p + 1)) C.tokens in
    let agree : Agree p w v = (λ j le. sym (in_front w (new_tokens (N + (p + 1)) C.tokens) (p + 1) 0 j (omega arith) ∙ (let e : 0 + j ≡ j = omega arith in ap (raw_at w) e))) in
    let h = here_from N C.tokens v (p + 1) (past_front w (new_tokens (N + (p + 1)) C.tokens) (p + 1) 0) in
    let new : Fresh N v i = record { some = omega arith; rising = unfold continued in continued_rising w C.tokens p N said.0 (omega arith) said.1; under = up_under known.0 (N + i.place) (omega arith) i.state known.1 } in
    record { source = v; agrees = agree; place = h.0; ends = ends_so body J anyhow r v i h.0 (λ a t k. tt) (C.finishes N v h.0 new agree h.1.0 (ap Q h.1.1 ∙ quiet)); at_end = h.1.1 }

-- a prefix that a live reader took, or lacks levels alone for, can be completed
pub completed : {A : Type 0} (body : Body) (bodies : (n : Rule) → Tame body (body n)) (calls : Calls)
    (lives : (n : Rule) (s : State) (y : Shape) → calls.Good n s y → Live body calls (calls.needs n) s y (calls.following n) (calls.Gives n s) (body n))
    (deep d : ℕ) → deep ≤ d → (Q : Tokens) → Q shape.End ≡ true → (J : A → State → Type 0) (r : Reader A) (w : List Shape) (i : Spot) → Tame body r → Live body calls deep i.state (raw_at w i.place) Q J r
    → (p : ℕ) → i.place ≤ p → Before p (read body d r (from w i)) → Whole body r i w p
completed body bodies calls lives deep d D Q quiet J r w i T L p le b = whole body Q J r w i p quiet (live body bodies calls lives deep d D w p Q J r i T L le b)

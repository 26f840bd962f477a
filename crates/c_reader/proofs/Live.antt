-- Readers each of whose answers can be completed: after each token that such a reader takes there is a phrase that
-- finishes it.
use Rattle.std.proofs.Common.{◌≡◌, refl, ℕ, suc, ◌+◌, ◌<◌, ◌≤◌, Bool, true, false, List, [], Some, Err, Ok}
use Rattle.c_tokens.specs.declared.token.Shape.{Shape}
use Rattle.c_reader.specs.declared.refusal.Refusal.TheVariants.{Memory, Syntax, TooDeep}
use Rattle.c_reader.specs.States.{State, Seen, seen, happens, noted}
use Rattle.c_reader.specs.Tokens.{Spot, spot, raw_at, Agree}
use Rattle.c_reader.specs.Readers.{Reader, Outcome, More, Last, Found, Rule, Body, Give, Refuse, Look, Next, Pick, Note, Bind, Fits, Call, Loop, Ask, Change, choose, turn_while, repeat}
use Rattle.c_reader.proofs.Bounds.{Bounded}
use Rattle.c_reader.proofs.Fresh.{Fresh}
use Rattle.c_reader.proofs.Leaves.{Leaves, Turned, anyhow, leaves_anyhow, leaves_turn}
use Rattle.c_reader.proofs.Phrases.{Tokens, Here, Ends, Finishes, Phrase, Way, Begun, fin_give, fin_over}

-- What is promised of the rules that calls are made of: in which states and at which tokens they are called, how many
-- levels each needs below it, what may follow what it reads, and what holds of its answer where it is completed.
pub record Calls : Type 1 where
  pub Good : Rule → State → Shape → Type 0
  pub needs : Rule → ℕ
  pub following : Rule → Tokens
  pub Gives : Rule → State → Found → State → Type 0

-- In state s at the token y: after each token that it takes, the reader can be finished, where a token of Q follows, so
-- that J holds of the answer. So many levels are left.
module _ (body : Body) (calls : Calls) where
  abbrev pub Live : {A : Type 0} → ℕ → State → Shape → Tokens → (A → State → Type 0) → Reader A → Type 1
  Live deep s y Q J (Give a) = Unit {1}
  Live deep s y Q J Refuse = Unit {1}
  Live deep s y Q J (Look f) = Live deep s y Q J (f (seen s y))
  Live deep s y Q J (Next r) = Phrase body s Q J r × ((x : Shape) → Live deep s x Q J r)
  Live deep s y Q J (Pick {A = A} f) = ((a : A) → f (seen s y) ≡ Some a → J a s) × Unit {1}
  Live deep s y Q J (Note {A = A} f) = ((a : A) → f (seen s y) ≡ Some a → J a (noted y s)) × Unit {1}
  Live deep s y Q J (Bind {B = B} r f) = (P : Tokens) × ((I : B → State → Type 0) × ((K : B → State → Type 0) × (Live deep s y P K r × (Leaves body s y r I × (Way body K P Q J f × ((b : B) (t : State) (x : Shape) → I b t → Live deep t x Q J (f b)))))))
  Live deep s y Q J (Fits h r) = Begun body s y Q J r × Live (suc h) s y Q J r
  Live deep s y Q J (Call n) = calls.Good n s y × ((calls.needs n < deep) × (((x : Shape) → Q x ≡ true → calls.following n x ≡ true) × (((a : Found) (t : State) → calls.Gives n s a t → J a t) × Unit {1})))
  Live deep s y Q J (Loop {A = A} {S = S} f t) = (I : S → State → Type 0) × ((K : S → State → Type 0) × (I t s × (((t : S) (z : State) (x : Shape) → I t z → Live deep z x Q (Turned K J) (f t))
      × (((t : S) (z : State) (x : Shape) → I t z → Leaves body z x (f t) (Turned I anyhow)) × ((t : S) (z : State) → K t z → Finishes body z Q J (Loop f t) [])))))
  Live deep s y Q J (Ask f) = (place : ℕ) → Live deep s y Q J (f (spot place s))
  Live deep s y Q J (Change e r) = Live deep (happens e s) y Q J r

-- the place was taken, or has a token for which levels are missing
abbrev pub Before : {A : Type 0} → ℕ → Outcome A → Type 0
Before p (Ok q) = p < q.1.at.place
Before p (Err Memory) = ⊥
Before p (Err (Syntax k)) = p < k
Before p (Err (TooDeep k)) = p ≤ k

-- what agrees with w through p can be completed
pub record Continues {A : Type 0} (body : Body) (Q : Tokens) (J : A → State → Type 0) (r : Reader A) (w : List Shape) (i : Spot) (p : ℕ) : Type 0 where
  pub tokens : List Shape
  pub finishes : (N : ℕ) (v : List Shape) (j : ℕ) → Fresh N v i → Agree p w v → Here N tokens v (p + 1) j → Q (raw_at v j) ≡ true → Ends body J r v i j

-- ---- what makes a reader live

module _ (body : Body) (calls : Calls) where
  pub live_choose : {A : Type 0} (deep : ℕ) (s : State) (y : Shape) (Q : Tokens) (J : A → State → Type 0) (b : Bool) (r q : Reader A) → (b ≡ true → Live body calls deep s y Q J r) → (b ≡ false → Live body calls deep s y Q J q) → Live body calls deep s y Q J (choose b r q)
  live_choose deep s y Q J true r q R S = R refl
  live_choose deep s y Q J false r q R S = S refl

  -- a part of which I holds, and K where it is completed, and a phrase that goes on after it
  pub live_bind : {A B : Type 0} (deep : ℕ) (s : State) (y : Shape) (I K : B → State → Type 0) (P Q : Tokens) (J : A → State → Type 0) (r : Reader B) (f : B → Reader A) → Live body calls deep s y P K r → Leaves body s y r I → Way body K P Q J f
      → ((b : B) (t : State) (x : Shape) → I b t → Live body calls deep t x Q J (f b)) → Live body calls deep s y Q J (Bind r f)
  live_bind deep s y I K P Q J r f L I' W F = (P, (I, (K, (L, (I', (W, F))))))

  -- where what follows ends the first part too
  pub live_map : {A B : Type 0} (deep : ℕ) (s : State) (y : Shape) (K : B → State → Type 0) (P Q : Tokens) (J : A → State → Type 0) (r : Reader B) (f : B → A) → ((x : Shape) → Q x ≡ true → P x ≡ true) → ((b : B) (t : State) → K b t → J (f b) t)
      → Live body calls deep s y P K r → Live body calls deep s y Q J (Bind r (λ b. Give (f b)))
  live_map deep s y K P Q J r f up so L = live_bind deep s y anyhow K P Q J r (λ b. Give (f b)) L (leaves_anyhow body s y r) (record { tokens = []; opens = up; finishes = λ b t k. fin_give body t Q J (f b) (so b t k) }) (λ b t x _. tt)

  pub live_next : {A : Type 0} (deep : ℕ) (s : State) (y : Shape) (Q : Tokens) (J : A → State → Type 0) (r : Reader A) (u : List Shape) → Finishes body s Q J r u → ((x : Shape) → Live body calls deep s x Q J r) → Live body calls deep s y Q J (Next r)
  live_next deep s y Q J r u F L = (record { tokens = u; finishes = F }, L)

  -- a loop that is over where a token of Q follows; I holds before each turn, and K after one that is completed
  pub live_repeat : {S : Type 0} (deep : ℕ) (s : State) (y : Shape) (Q : Tokens) (J : S → State → Type 0) (goes : S → Seen → Bool) (item : Seen → S → Reader S) (B : Bounded body (turn_while goes item)) (t : S) (I K : S → State → Type 0) → I t s
      → ((t : S) (z : State) (x : Shape) → K t z → Q x ≡ true → goes t (seen z x) ≡ false) → ((t : S) (z : State) → K t z → J t z)
      → ((t : S) (z : State) (x : Shape) → I t z → goes t (seen z x) ≡ true → Live body calls deep z x Q K (item (seen z x) t))
      → ((t : S) (z : State) (x : Shape) → I t z → goes t (seen z x) ≡ true → Leaves body z x (item (seen z x) t) I) → Live body calls deep s y Q J (repeat goes item t)
  live_repeat deep s y Q J goes item B t I K k none so L J' = (
    I,
    (
      K,
      (
        k,
        (
          λ t z x k. live_choose deep z x Q (Turned K J) (goes t (seen z x)) (Bind (item (seen z x) t) (λ u. Give (More u))) (Give (Last t)) (λ e. live_map deep z x K Q Q (Turned K J) (item (seen z x) t) More (λ x q. q) (λ b t h. h) (L t z x k e)) (λ _. tt),
          (λ t z x k. leaves_turn body I anyhow goes item t z x (J' t z x k) (λ _. tt), λ t z k. fin_over body z Q J goes item B t (λ x q. none t z x k q) (so t z k)),
        ),
      ),
    ),
  )

-- Phrases: lists of tokens that a reader takes, wherever they stand.
use Rattle.std.proofs.Common.{◌≡◌, refl, subst, ap, sym, ◌∙◌, ℕ, suc, ◌+◌, ◌<◌, ◌≤◌, max, not, Bool, true, false, List, [], ◌∷◌, ◌++◌, Some, Ok, nat_eq, Option, arith}
use Rattle.std.proofs.lemmas.Bool.{lt-ltb}
use Rattle.std.proofs.lemmas.List.{append-nil}
use Rattle.c_tokens.specs.declared.token.Shape.{Shape}
use Rattle.c_tokens.specs.declared.token.Shape.TheVariants as shape
use Rattle.c_forms.specs.declared.pieces.Event.{Event}
use Rattle.c_forms.specs.Sets.{Classes, has}
use Rattle.c_reader.specs.States.{State, Seen, seen, class, happens, noted}
use Rattle.c_reader.specs.Tokens.{Spot, spot, raw_at, seen_at}
use Rattle.c_reader.specs.Readers.{Reader, Turn, More, Last, Rule, Body, Found, Give, Look, Next, Pick, Note, Bind, Fits, Call, Loop, Ask, Change, read, below, pick, choose, only, token, turn_while, repeat}
use Rattle.c_reader.proofs.Sets.{itself, not_true}
use Rattle.c_reader.proofs.Seen.{written, blur, blurred}
use Rattle.c_reader.proofs.Bounds.{Bounded}
use Rattle.c_reader.proofs.Repeats.{goes_on, ends_with}
use Rattle.c_reader.proofs.Advance.{over}
use Rattle.c_reader.proofs.Leaves.{Leaves, Turned}
use Rattle.c_reader.proofs.Local.{from}
use Rattle.c_reader.proofs.Fresh.{Fresh, freshly, fresh_step, fresh_event, new_word}
use Rattle.c_reader.proofs.Deeper.{risen, deeper}

-- sets of tokens as they are written
abbrev pub Tokens : Type 0
Tokens = Shape → Bool

abbrev pub anything : Tokens
anything x = true

-- the tokens that are not written with a class of this set
abbrev pub but : (ℕ → Bool) → Tokens
but f x = not (f (written x))

-- a word of a phrase stands for a new one
abbrev pub renewed : ℕ → Shape → Shape
renewed n (shape.Word w) = shape.Word (record { 0 = n })
renewed n x = x

abbrev pub renewed_seen : ℕ → Shape → Seen
renewed_seen n x = record { shape = renewed n x; class = written x }

-- the tokens of v from place i to place j are those of the phrase
abbrev pub Here : ℕ → List Shape → List Shape → ℕ → ℕ → Type 0
Here N [] v i j = i ≡ j
Here N (x ∷ u) v i j = (raw_at v i ≡ renewed (N + i) x) × Here N u v (i + 1) j

-- what opens the phrase, or what follows where it is empty, is one of these
abbrev pub Opens : Tokens → List Shape → Tokens → Type 0
Opens P [] Q = (x : Shape) → Q x ≡ true → P x ≡ true
Opens P (x ∷ u) Q = (n : ℕ) → P (renewed n x) ≡ true

-- with enough levels the reader answers over the tokens of v from i to j, and J holds of the answer
pub record Ends {A : Type 0} (body : Body) (J : A → State → Type 0) (r : Reader A) (v : List Shape) (i : Spot) (j : ℕ) : Type 0 where
  pub levels : ℕ
  pub value : A
  pub state : State
  pub reads : read body levels r (from v i) ≡ Ok (value, from v (spot j state))
  pub meets : J value state

-- In this state the reader takes the phrase, if one of these tokens follows, and J holds of the answer.
abbrev pub Finishes : {A : Type 0} → Body → State → Tokens → (A → State → Type 0) → Reader A → List Shape → Type 0
Finishes body s Q J r u = (N : ℕ) (v : List Shape) (place j : ℕ) → Fresh N v (spot place s) → Here N u v place j → Q (raw_at v j) ≡ true → Ends body J r v (spot place s) j

pub record Phrase {A : Type 0} (body : Body) (s : State) (Q : Tokens) (J : A → State → Type 0) (r : Reader A) : Type 0 where
  pub tokens : List Shape
  pub finishes : Finishes body s Q J r tokens

-- one phrase that whatever was read, up to a token of P and with what K says, can go on with
pub record Way {A B : Type 0} (body : Body) (K : B → State → Type 0) (P Q : Tokens) (J : A → State → Type 0) (f : B → Reader A) : Type 0 where
  pub tokens : List Shape
  pub opens : Opens P tokens Q
  pub finishes : (b : B) (s : State) → K b s → Finishes body s Q J (f b) tokens

-- a phrase that the reader takes in this state after this token
pub record Begun {A : Type 0} (body : Body) (s : State) (y : Shape) (Q : Tokens) (J : A → State → Type 0) (r : Reader A) : Type 0 where
  pub tokens : List Shape
  pub finishes : (N : ℕ) (v : List Shape) (place j : ℕ) → Fresh N v (spot place s) → raw_at v place ≡ y → Here N tokens v (place + 1) j → Q (raw_at v j) ≡ true → Ends body J r v (spot place s) j

-- ---- how the tokens of a phrase are seen

abbrev seen_as : Shape → ℕ → Seen
seen_as x c = record { shape = x; class = c }

seen_same : (a b : Shape) (c d : ℕ) → a ≡ b → c ≡ d → seen_as a c ≡ seen_as b d
seen_same a b c d e f = rw (e, f) refl

-- a word of a phrase is seen as a value, so each token of it is seen as it is written
pub renewed_at : (N : ℕ) (v : List Shape) (i : Spot) (x : Shape) → Fresh N v i → raw_at v i.place ≡ renewed (N + i.place) x → seen_at v i ≡ renewed_seen (N + i.place) x
renewed_at N v i (shape.Word w) F e = seen_same _ _ _ _ e (new_word N v i F e)
renewed_at N v i _ F e = ap (seen i.state) e

pub renewed_written : (n : ℕ) (x : Shape) → written (renewed n x) ≡ written x
renewed_written n (shape.Word w) = refl
renewed_written n _ = refl

-- what opens the phrase is not of the set
pub opens_but : (f : ℕ → Bool) (x : Shape) (u : List Shape) (Q : Tokens) → f (written x) ≡ false → Opens (but f) (x ∷ u) Q
opens_but f x u Q h n = ap not (ap f (renewed_written n x) ∙ h)

-- nor what follows, where the phrase is empty
pub opens_past : (f : ℕ → Bool) (Q : Tokens) → ((x : Shape) → Q x ≡ true → f (written x) ≡ false) → Opens (but f) [] Q
opens_past f Q h x q = ap not (h x q)

-- it is seen as none of the set, whatever the state
pub quiet : (f : Classes) (s : State) (x : Shape) → but (blur f) x ≡ true → has f (class s x) ≡ false
quiet f s x h = blurred f s x (not_true (blur f (written x)) h)

pub opens_anything : (u : List Shape) (Q : Tokens) → Opens anything u Q
opens_anything [] Q = λ x q. refl
opens_anything (x ∷ u) Q = λ n. refl

pub here_split : (N : ℕ) (u x : List Shape) (v : List Shape) (i j : ℕ) → Here N (u ++ x) v i j → (m : ℕ) × (Here N u v i m × Here N x v m j)
here_split N [] x v i j h = (i, (refl, h))
here_split N (a ∷ u) x v i j h = let s = here_split N u x v (i + 1) j h.1 in (s.0, ((h.0, s.1.0), s.1.1))

pub opens_first : (N : ℕ) (P Q : Tokens) (x : List Shape) (v : List Shape) (m j : ℕ) → Opens P x Q → Here N x v m j → Q (raw_at v j) ≡ true → P (raw_at v m) ≡ true
opens_first N P Q [] v m j q h e = q (raw_at v m) (ap (λ k. Q (raw_at v k)) h ∙ e)
opens_first N P Q (a ∷ x) v m j q h e = ap P h.0 ∙ q (N + m)

-- ---- putting readings together

module _ (body : Body) where
  pub at_levels : {A : Type 0} (J : A → State → Type 0) (r : Reader A) (v : List Shape) (i : Spot) (j : ℕ) (E : Ends body J r v i j) (d : ℕ) → E.levels ≤ d → read body d r (from v i) ≡ Ok (E.value, from v (spot j E.state))
  at_levels J r v i j E d le = risen _ _ E.value (from v (spot j E.state)) E.reads (deeper body E.levels d le r (from v i))

  pub ends_bind : {A B : Type 0} (K : B → State → Type 0) (J : A → State → Type 0) (r : Reader B) (f : B → Reader A) (v : List Shape) (i : Spot) (m j : ℕ) (E : Ends body K r v i m) → Ends body J (f E.value) v (spot m E.state) j → Ends body J (Bind r f) v i j
  ends_bind K J r f v i m j E F = record {
    levels = max E.levels F.levels;
    value = F.value;
    state = F.state;
    reads = rw (at_levels K r v i m E (max E.levels F.levels) (omega arith)) (at_levels J (f E.value) v (spot m E.state) j F (max E.levels F.levels) (omega arith));
    meets = F.meets;
  }

  pub raised : {A : Type 0} (J : A → State → Type 0) (h : ℕ) (r : Reader A) (v : List Shape) (i : Spot) (j : ℕ) → Ends body J r v i j → Ends body J (Fits h r) v i j
  raised J h r v i j E = let D : ℕ = max E.levels (h + 1) in let low : h < D = omega arith in record {
    levels = D;
    value = E.value;
    state = E.state;
    reads = rw (lt-ltb h D low) (at_levels J r v i j E D (omega arith));
    meets = E.meets;
  }

  pub called : (J : Found → State → Type 0) (n : Rule) (v : List Shape) (i : Spot) (j : ℕ) → Ends body J (body n) v i j → Ends body J (Call n) v i j
  unfolding below
  called J n v i j E = record { levels = suc E.levels; value = E.value; state = E.state; reads = E.reads; meets = E.meets }

  -- what is new is new afterwards
  pub still : {A : Type 0} (J : A → State → Type 0) (N : ℕ) (v : List Shape) (i : Spot) (j : ℕ) (r : Reader A) → Fresh N v i → (E : Ends body J r v i j) → Fresh N v (spot j E.state)
  still J N v i j r F E = freshly body N v i F E.levels r E.value (spot j E.state) E.reads

  -- less holds too
  pub ends_so : {A : Type 0} (K J : A → State → Type 0) (r : Reader A) (v : List Shape) (i : Spot) (j : ℕ) → ((a : A) (s : State) → K a s → J a s) → Ends body K r v i j → Ends body J r v i j
  ends_so K J r v i j up E = record { levels = E.levels; value = E.value; state = E.state; reads = E.reads; meets = up E.value E.state E.meets }

  module _ {A S : Type 0} (f : S → Reader (Turn S A)) (B : Bounded body f) (J : A → State → Type 0) where
    pub ends_last : (s : S) (v : List Shape) (i : Spot) (j : ℕ) (z : State) (d : ℕ) (a : A) → J a z → read body d (f s) (from v i) ≡ Ok (Last a, from v (spot j z)) → Ends body J (Loop f s) v i j
    ends_last s v i j z d a k e = record { levels = d; value = a; state = z; reads = ends_with body f B d s (from v i) a (from v (spot j z)) e; meets = k }

    pub ends_more : (s t : S) (v : List Shape) (i m : Spot) (j : ℕ) (d : ℕ) → read body d (f s) (from v i) ≡ Ok (More t, from v m) → Ends body J (Loop f t) v m j → Ends body J (Loop f s) v i j
    ends_more s t v i m j d e E =
        let D : ℕ = max d E.levels in
        let turn : read body D (f s) (from v i) ≡ Ok (More t, from v m) = risen _ _ (More t) (from v m) e (deeper body d D (omega arith) (f s) (from v i)) in
        record { levels = D; value = E.value; state = E.state; reads = goes_on body f B D s (from v i) t (from v m) turn ∙ at_levels J (Loop f t) v m j E D (omega arith); meets = E.meets }

    -- after a turn the loop ends where what may follow it follows
    pub ends_turn : (K : S → State → Type 0) (Q : Tokens) (quiet : (t : S) (z : State) → K t z → Finishes body z Q J (Loop f t) []) (N : ℕ) (s : S) (v : List Shape) (i : Spot) (j : ℕ) (z : State) (d : ℕ) (r : Turn S A)
        → Fresh N v i → Turned K J r z → read body d (f s) (from v i) ≡ Ok (r, from v (spot j z)) → Q (raw_at v j) ≡ true → Ends body J (Loop f s) v i j
    ends_turn K Q quiet N s v i j z d (More t) new k e q = ends_more s t v i (spot j z) j d e (quiet t z k N v j j (freshly body N v i new d (f s) (More t) (spot j z) e) refl q)
    ends_turn K Q quiet N s v i j z d (Last a) new k e q = ends_last s v i j z d a k e

  -- what is known of an answer is known of this one
  pub left_so : {A : Type 0} (K J : A → State → Type 0) (r : Reader A) (v : List Shape) (i : Spot) (j : ℕ) → Leaves body i.state (raw_at v i.place) r K → (E : Ends body J r v i j) → K E.value E.state
  left_so K J r v i j L E = L E.levels (from v i) refl refl E.value (from v (spot j E.state)) E.reads

  -- ---- what finishes a reader

  pub fin_give : {A : Type 0} (s : State) (Q : Tokens) (J : A → State → Type 0) (a : A) → J a s → Finishes body s Q J (Give a) []
  fin_give s Q J a k N v i j new h q = record { levels = 0; value = a; state = s; reads = ap (λ k. Ok (a, from v (spot k s))) h; meets = k }

  pub fin_bind : {A B : Type 0} (s : State) (K : B → State → Type 0) (P Q : Tokens) (J : A → State → Type 0) (r : Reader B) (f : B → Reader A) (u x : List Shape) → Finishes body s P K r u → Opens P x Q
      → ((b : B) (t : State) → K b t → Finishes body t Q J (f b) x) → Finishes body s Q J (Bind r f) (u ++ x)
  fin_bind s K P Q J r f u x R q F N v i j z h e =
      let m = here_split N u x v i j h in
      let E : Ends body K r v (spot i s) m.0 = R N v i m.0 z m.1.0 (opens_first N P Q x v m.0 j q m.1.1 e) in
      ends_bind K J r f v (spot i s) m.0 j E (F E.value E.state E.meets N v m.0 j (still K N v (spot i s) m.0 r z E) m.1.1 e)

  -- the last part takes nothing
  pub fin_last : {A B : Type 0} (s : State) (K : B → State → Type 0) (P Q : Tokens) (J : A → State → Type 0) (r : Reader B) (f : B → Reader A) (u : List Shape) → Finishes body s P K r u → ((x : Shape) → Q x ≡ true → P x ≡ true)
      → ((b : B) (t : State) → K b t → Finishes body t Q J (f b) []) → Finishes body s Q J (Bind r f) u
  fin_last s K P Q J r f u R up F = subst (λ u. Finishes body s Q J (Bind r f) u) (append-nil u) (fin_bind s K P Q J r f u [] R up F)

  pub fin_map : {A B : Type 0} (s : State) (K : B → State → Type 0) (Q : Tokens) (J : A → State → Type 0) (r : Reader B) (f : B → A) (u : List Shape) → Finishes body s Q K r u → ((b : B) (t : State) → K b t → J (f b) t) → Finishes body s Q J (Bind r (λ b. Give (f b))) u
  fin_map s K Q J r f u R up = fin_last s K Q Q J r (λ b. Give (f b)) u R (λ x q. q) (λ b t k. fin_give t Q J (f b) (up b t k))

  -- fewer tokens may follow, and less holds
  pub fin_fewer : {A : Type 0} (s : State) (P Q : Tokens) (K J : A → State → Type 0) (r : Reader A) (u : List Shape) → ((x : Shape) → Q x ≡ true → P x ≡ true) → ((a : A) (t : State) → K a t → J a t) → Finishes body s P K r u → Finishes body s Q J r u
  fin_fewer s P Q K J r u up so F N v i j new h q = ends_so K J r v (spot i s) j so (F N v i j new h (up (raw_at v j) q))

  -- what is known of each answer holds too
  pub fin_known : {A : Type 0} (s : State) (Q : Tokens) (K J : A → State → Type 0) (r : Reader A) (u : List Shape) → ((y : Shape) → Leaves body s y r J) → Finishes body s Q K r u → Finishes body s Q (λ a t. K a t × J a t) r u
  fin_known s Q K J r u L F N v i j new h q = let E : Ends body K r v (spot i s) j = F N v i j new h q in record { levels = E.levels; value = E.value; state = E.state; reads = E.reads; meets = (E.meets, left_so J K r v (spot i s) j (L (raw_at v i)) E) }

  pub fin_next : {A : Type 0} (s : State) (Q : Tokens) (J : A → State → Type 0) (r : Reader A) (x : Shape) (u : List Shape) → Finishes body s Q J r u → Finishes body s Q J (Next r) (x ∷ u)
  fin_next s Q J r x u F N v i j new h q = let E : Ends body J r v (spot (i + 1) s) j = F N v (i + 1) j (fresh_step N v (spot i s) new) h.1 q in record { levels = E.levels; value = E.value; state = E.state; reads = E.reads; meets = E.meets }

  -- the first token is looked at
  pub fin_look : {A : Type 0} (s : State) (Q : Tokens) (J : A → State → Type 0) (f : Seen → Reader A) (x : Shape) (u : List Shape) → ((n : ℕ) → Finishes body s Q J (f (renewed_seen n x)) (x ∷ u)) → Finishes body s Q J (Look f) (x ∷ u)
  fin_look s Q J f x u F N v i j new h q =
      let E : Ends body J (f (renewed_seen (N + i) x)) v (spot i s) j = F (N + i) N v i j new h q in record {
        levels = E.levels;
        value = E.value;
        state = E.state;
        reads = subst (λ y. read body E.levels (f y) (from v (spot i s)) ≡ Ok (E.value, from v (spot j E.state))) (sym (renewed_at N v (spot i s) x new h.0)) E.reads;
        meets = E.meets;
      }

  -- what follows is looked at, and nothing is taken
  pub fin_look_past : {A : Type 0} (s : State) (Q : Tokens) (J : A → State → Type 0) (f : Seen → Reader A) → ((x : Shape) → Q x ≡ true → Finishes body s Q J (f (seen s x)) []) → Finishes body s Q J (Look f) []
  fin_look_past s Q J f F N v i j new h q =
      let E : Ends body J (f (seen s (raw_at v i))) v (spot i s) j = F (raw_at v i) (ap (λ k. Q (raw_at v k)) h ∙ q) N v i j new h q in record { levels = E.levels; value = E.value; state = E.state; reads = E.reads; meets = E.meets }

  pub fin_pick : {A : Type 0} (s : State) (Q : Tokens) (J : A → State → Type 0) (f : Seen → Option A) (x : Shape) (a : ℕ → A) → ((n : ℕ) → f (renewed_seen n x) ≡ Some (a n)) → ((n : ℕ) → J (a n) s) → Finishes body s Q J (Pick f) (x ∷ [])
  fin_pick s Q J f x a F k N v i j new h q = record {
    levels = 0;
    value = a (N + i);
    state = s;
    reads = ap (λ o. pick o (from v (spot i s))) (ap f (renewed_at N v (spot i s) x new h.0) ∙ F (N + i)) ∙ ap (λ k. Ok (a (N + i), from v (spot k s))) h.1;
    meets = k (N + i);
  }

  pub fin_note : {A : Type 0} (s : State) (Q : Tokens) (J : A → State → Type 0) (f : Seen → Option A) (x : Shape) (a : ℕ → A) → ((n : ℕ) → f (renewed_seen n x) ≡ Some (a n)) → ((n : ℕ) (y : Shape) → J (a n) (noted y s)) → Finishes body s Q J (Note f) (x ∷ [])
  fin_note s Q J f x a F k N v i j new h q = record {
    levels = 0;
    value = a (N + i);
    state = noted (raw_at v i) s;
    reads = ap (λ o. pick o (from v (spot i (noted (raw_at v i) s)))) (ap f (renewed_at N v (spot i s) x new h.0) ∙ F (N + i)) ∙ ap (λ k. Ok (a (N + i), from v (spot k (noted (raw_at v i) s)))) h.1;
    meets = k (N + i) (raw_at v i);
  }

  pub fin_token : (s : State) (Q : Tokens) (J : Unit {0} → State → Type 0) (x : Shape) (c : ℕ) → written x ≡ c → J tt s → Finishes body s Q J (token c) (x ∷ [])
  fin_token s Q J x c e k = fin_pick s Q J (λ y. only (nat_eq y.class c)) x (λ n. tt) (λ n. ap only (ap (λ k. nat_eq k c) e ∙ itself c)) (λ n. k)

  pub fin_fits : {A : Type 0} (s : State) (Q : Tokens) (J : A → State → Type 0) (h : ℕ) (r : Reader A) (u : List Shape) → Finishes body s Q J r u → Finishes body s Q J (Fits h r) u
  fin_fits s Q J h r u F N v i j new H q = raised J h r v (spot i s) j (F N v i j new H q)

  pub fin_call : (s : State) (Q : Tokens) (J : Found → State → Type 0) (n : Rule) (u : List Shape) → Finishes body s Q J (body n) u → Finishes body s Q J (Call n) u
  fin_call s Q J n u F N v i j new h q = called J n v (spot i s) j (F N v i j new h q)

  pub fin_ask : {A : Type 0} (s : State) (Q : Tokens) (J : A → State → Type 0) (f : Spot → Reader A) (u : List Shape) → ((place : ℕ) → Finishes body s Q J (f (spot place s)) u) → Finishes body s Q J (Ask f) u
  fin_ask s Q J f u F N v i j new h q = let E : Ends body J (f (spot i s)) v (spot i s) j = F i N v i j new h q in record { levels = E.levels; value = E.value; state = E.state; reads = E.reads; meets = E.meets }

  pub fin_change : {A : Type 0} (s : State) (Q : Tokens) (J : A → State → Type 0) (e : Event) (r : Reader A) (u : List Shape) → Finishes body (happens e s) Q J r u → Finishes body s Q J (Change e r) u
  fin_change s Q J e r u F N v i j new h q = let E : Ends body J r v (spot i (happens e s)) j = F N v i j (fresh_event N v (spot i s) e new) h q in record { levels = E.levels; value = E.value; state = E.state; reads = E.reads; meets = E.meets }

  pub fin_choose : {A : Type 0} (s : State) (Q : Tokens) (J : A → State → Type 0) (b : Bool) (r q : Reader A) (u : List Shape) → (b ≡ true → Finishes body s Q J r u) → (b ≡ false → Finishes body s Q J q u) → Finishes body s Q J (choose b r q) u
  fin_choose s Q J true r q u R S = R refl
  fin_choose s Q J false r q u R S = S refl

  -- one turn, after which the loop ends
  pub fin_turn : {A S : Type 0} (s : State) (K : S → State → Type 0) (Q : Tokens) (J : A → State → Type 0) (f : S → Reader (Turn S A)) (B : Bounded body f) (t : S) (u : List Shape)
      → ((t : S) (z : State) → K t z → Finishes body z Q J (Loop f t) []) → Finishes body s Q (Turned K J) (f t) u → Finishes body s Q J (Loop f t) u
  fin_turn s K Q J f B t u quiet F N v i j new h q = let E : Ends body (Turned K J) (f t) v (spot i s) j = F N v i j new h q in
      ends_turn f B J K Q quiet N t v (spot i s) j E.state E.levels E.value new E.meets E.reads q

  -- no turn, where what follows goes on with none
  pub fin_over : {S : Type 0} (s : State) (Q : Tokens) (J : S → State → Type 0) (goes : S → Seen → Bool) (item : Seen → S → Reader S) (B : Bounded body (turn_while goes item)) (t : S) → ((x : Shape) → Q x ≡ true → goes t (seen s x) ≡ false) → J t s → Finishes body s Q J (repeat goes item t) []
  fin_over s Q J goes item B t none k N v i j new h q = record {
    levels = 0;
    value = t;
    state = s;
    reads = over body goes item B 0 t (from v (spot i s)) (none (raw_at v i) (ap (λ k. Q (raw_at v k)) h ∙ q)) ∙ ap (λ k. Ok (t, from v (spot k s))) h;
    meets = k;
  }

  -- ---- what finishes a reader after the token that stands there

  pub begun_next : {A : Type 0} (s : State) (y : Shape) (Q : Tokens) (J : A → State → Type 0) (r : Reader A) → Phrase body s Q J r → Begun body s y Q J (Next r)
  begun_next s y Q J r P = record {
    tokens = P.tokens;
    finishes = λ N v i j new e h q. let E : Ends body J r v (spot (i + 1) s) j = P.finishes N v (i + 1) j (fresh_step N v (spot i s) new) h q in record { levels = E.levels; value = E.value; state = E.state; reads = E.reads; meets = E.meets };
  }

  pub begun_look : {A : Type 0} (s : State) (y : Shape) (Q : Tokens) (J : A → State → Type 0) (f : Seen → Reader A) → Begun body s y Q J (f (seen s y)) → Begun body s y Q J (Look f)
  begun_look s y Q J f F = record {
    tokens = F.tokens;
    finishes = λ N v i j new e h q. let E : Ends body J (f (seen s y)) v (spot i s) j = F.finishes N v i j new e h q in record {
      levels = E.levels;
      value = E.value;
      state = E.state;
      reads = subst (λ x. read body E.levels (f (seen s x)) (from v (spot i s)) ≡ Ok (E.value, from v (spot j E.state))) (sym e) E.reads;
      meets = E.meets;
    };
  }

  pub begun_pick : {A : Type 0} (s : State) (y : Shape) (Q : Tokens) (J : A → State → Type 0) (f : Seen → Option A) (a : A) → f (seen s y) ≡ Some a → J a s → Begun body s y Q J (Pick f)
  begun_pick s y Q J f a F k = record {
    tokens = [];
    finishes = λ N v i j new e h q. record { levels = 0; value = a; state = s; reads = ap (λ x. pick (f (seen s x)) (from v (spot i s))) e ∙ ap (λ o. pick o (from v (spot i s))) F ∙ ap (λ k. Ok (a, from v (spot k s))) h; meets = k };
  }

  pub begun_note : {A : Type 0} (s : State) (y : Shape) (Q : Tokens) (J : A → State → Type 0) (f : Seen → Option A) (a : A) → f (seen s y) ≡ Some a → J a (noted y s) → Begun body s y Q J (Note f)
  begun_note s y Q J f a F k = record {
    tokens = [];
    finishes = λ N v i j new e h q. record {
      levels = 0;
      value = a;
      state = noted y s;
      reads = ap (λ x. pick (f (seen s x)) (from v (spot i (noted x s)))) e ∙ ap (λ o. pick o (from v (spot i (noted y s)))) F ∙ ap (λ k. Ok (a, from v (spot k (noted y s)))) h;
      meets = k;
    };
  }

  pub begun_bind : {A B : Type 0} (s : State) (y : Shape) (K : B → State → Type 0) (P Q : Tokens) (J : A → State → Type 0) (r : Reader B) (f : B → Reader A) → Begun body s y P K r → Way body K P Q J f → Begun body s y Q J (Bind r f)
  begun_bind s y K P Q J r f R W = record {
    tokens = R.tokens ++ W.tokens;
    finishes = λ N v i j new e h q.
        let m = here_split N R.tokens W.tokens v (i + 1) j h in
        let E : Ends body K r v (spot i s) m.0 = R.finishes N v i m.0 new e m.1.0 (opens_first N P Q W.tokens v m.0 j W.opens m.1.1 q) in
        ends_bind K J r f v (spot i s) m.0 j E (W.finishes E.value E.state E.meets N v m.0 j (still K N v (spot i s) m.0 r new E) m.1.1 q);
  }

  pub begun_fits : {A : Type 0} (s : State) (y : Shape) (Q : Tokens) (J : A → State → Type 0) (h : ℕ) (r : Reader A) → Begun body s y Q J r → Begun body s y Q J (Fits h r)
  begun_fits s y Q J h r R = record { tokens = R.tokens; finishes = λ N v i j new e H q. raised J h r v (spot i s) j (R.finishes N v i j new e H q) }

  pub begun_call : (s : State) (y : Shape) (Q : Tokens) (J : Found → State → Type 0) (n : Rule) → Begun body s y Q J (body n) → Begun body s y Q J (Call n)
  begun_call s y Q J n R = record { tokens = R.tokens; finishes = λ N v i j new e h q. called J n v (spot i s) j (R.finishes N v i j new e h q) }

  pub begun_ask : {A : Type 0} (s : State) (y : Shape) (Q : Tokens) (J : A → State → Type 0) (f : Spot → Reader A) (u : List Shape)
      → ((place : ℕ) (N : ℕ) (v : List Shape) (j : ℕ) → Fresh N v (spot place s) → raw_at v place ≡ y → Here N u v (place + 1) j → Q (raw_at v j) ≡ true → Ends body J (f (spot place s)) v (spot place s) j) → Begun body s y Q J (Ask f)
  begun_ask s y Q J f u F = record {
    tokens = u;
    finishes = λ N v i j new e h q. let E : Ends body J (f (spot i s)) v (spot i s) j = F i N v j new e h q in record { levels = E.levels; value = E.value; state = E.state; reads = E.reads; meets = E.meets };
  }

  pub begun_change : {A : Type 0} (s : State) (y : Shape) (Q : Tokens) (J : A → State → Type 0) (e : Event) (r : Reader A) → Begun body (happens e s) y Q J r → Begun body s y Q J (Change e r)
  begun_change s y Q J event r R = record {
    tokens = R.tokens;
    finishes = λ N v i j new e h q. let E : Ends body J r v (spot i (happens event s)) j = R.finishes N v i j (fresh_event N v (spot i s) event new) e h q in record { levels = E.levels; value = E.value; state = E.state; reads = E.reads; meets = E.meets };
  }

  pub begun_choose : {A : Type 0} (s : State) (y : Shape) (Q : Tokens) (J : A → State → Type 0) (b : Bool) (r q : Reader A) → (b ≡ true → Begun body s y Q J r) → (b ≡ false → Begun body s y Q J q) → Begun body s y Q J (choose b r q)
  begun_choose s y Q J true r q R S = R refl
  begun_choose s y Q J false r q R S = S refl

  pub begun_fewer : {A : Type 0} (s : State) (y : Shape) (P Q : Tokens) (K J : A → State → Type 0) (r : Reader A) → ((x : Shape) → Q x ≡ true → P x ≡ true) → ((a : A) (t : State) → K a t → J a t) → Begun body s y P K r → Begun body s y Q J r
  begun_fewer s y P Q K J r up so R = record { tokens = R.tokens; finishes = λ N v i j new e h q. ends_so K J r v (spot i s) j so (R.finishes N v i j new e h (up (raw_at v j) q)) }

  -- a phrase that begins with this token, if it is no word
  pub begun_phrase : {A : Type 0} (s : State) (y : Shape) (Q : Tokens) (J : A → State → Type 0) (r : Reader A) (u : List Shape) → ((n : ℕ) → renewed n y ≡ y) → Finishes body s Q J r (y ∷ u) → Begun body s y Q J r
  begun_phrase s y Q J r u same F = record { tokens = u; finishes = λ N v i j new e h q. F N v i j new (e ∙ sym (same (N + i)), h) q }

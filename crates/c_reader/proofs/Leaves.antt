-- What is known of the state in which a reader answers.
use Rattle.std.proofs.Common.{◌≡◌, refl, subst, ap, sym, ◌∙◌, ℕ, zero, suc, ◌+◌, nat_lt, Bool, true, false, length, Option, Some, None, Ok}
use Rattle.c_tokens.specs.declared.token.Shape.{Shape}
use Rattle.c_forms.specs.declared.pieces.Event.{Event}
use Rattle.c_reader.specs.States.{State, Seen, seen, happens, noted}
use Rattle.c_reader.specs.Tokens.{Spot, spot, raw_at}
use Rattle.c_reader.specs.Readers.{Input, Reader, Outcome, Turn, More, Last, Rule, Body, Found, Give, Refuse, Look, Next, Pick, Note, Bind, Fits, Call, Loop, Ask, Change, run, below, pick, when, choose, turn_while, repeat, next, change}
use Rattle.c_reader.proofs.Loops.{split, same_answer, same_place, kept}

-- an answer meets J, with the state after it
abbrev pub Answers : {A : Type 0} → Outcome A → (A → State → Type 0) → Type 0
Answers {A = A} o J = (a : A) (j : Input) → o ≡ Ok (a, j) → J a j.at.state

-- this holds of what the reader answers in state s at the token y, where calls answer by B
abbrev pub Leaving : {A : Type 0} → (Rule → Input → Outcome Found) → ℕ → State → Shape → Reader A → (A → State → Type 0) → Type 0
Leaving B d s y r J = (i : Input) → i.at.state ≡ s → raw_at i.tokens i.at.place ≡ y → Answers (run B d r i) J

-- with any number of levels
abbrev pub Leaves : {A : Type 0} → Body → State → Shape → Reader A → (A → State → Type 0) → Type 0
Leaves body s y r J = (d : ℕ) → Leaving (below body d) d s y r J

-- nothing is known
abbrev pub anyhow : {A : Type 0} → A → State → Type 0
anyhow a s = Unit {0}

pub leaves_anyhow : {A : Type 0} (body : Body) (s : State) (y : Shape) (r : Reader A) → Leaves body s y r anyhow
leaves_anyhow body s y r d i e f a j h = tt

-- of each turn of a loop
abbrev pub Turned : {A S : Type 0} → (S → State → Type 0) → (A → State → Type 0) → Turn S A → State → Type 0
Turned K J (More t) z = K t z
Turned K J (Last a) z = J a z

alike : (s t : State) (x y : Shape) → s ≡ t → x ≡ y → seen s x ≡ seen t y
alike s t x y e f = rw (e, f) refl

pick_answers : {A : Type 0} (o : Option A) (i : Input) (J : A → State → Type 0) → ((a : A) → o ≡ Some a → J a i.at.state) → Answers (pick o i) J
pick_answers (Some a) i J h b j e = subst (λ c. J c j.at.state) (same_answer a b (next i) j e) (subst (λ k. J a k.at.state) (same_place a b (next i) j e) (h a refl))
pick_answers None i J h b j e = absurd (cc e)

when_answers : {A : Type 0} (b : Bool) (o : Outcome A) (p : ℕ) (J : A → State → Type 0) → Answers o J → Answers (when b o p) J
when_answers true o p J h a j e = h a j e
when_answers false o p J h a j e = absurd (cc e)

module _ (B : Rule → Input → Outcome Found) (d : ℕ) where
  pub leaving_give : {A : Type 0} (s : State) (y : Shape) (a : A) (J : A → State → Type 0) → J a s → Leaving B d s y (Give a) J
  leaving_give s y a J h i e f b j k = subst (λ c. J c j.at.state) (same_answer a b i j k) (subst (λ m. J a m.at.state) (same_place a b i j k) (subst (J a) (sym e) h))

  pub leaving_refuse : {A : Type 0} (s : State) (y : Shape) (J : A → State → Type 0) → Leaving B d s y Refuse J
  leaving_refuse s y J i e f a j h = absurd (cc h)

  pub leaving_look : {A : Type 0} (s : State) (y : Shape) (f : Seen → Reader A) (J : A → State → Type 0) → Leaving B d s y (f (seen s y)) J → Leaving B d s y (Look f) J
  leaving_look s y f J L i e g a j h = L i e g a j (subst (λ x. run B d (f x) i ≡ Ok (a, j)) (alike i.at.state s (raw_at i.tokens i.at.place) y e g) h)

  pub leaving_next : {A : Type 0} (s : State) (y : Shape) (r : Reader A) (J : A → State → Type 0) → ((x : Shape) → Leaving B d s x r J) → Leaving B d s y (Next r) J
  leaving_next s y r J L i e g a j h = L (raw_at i.tokens (i.at.place + 1)) (next i) e refl a j h

  pub leaving_pick : {A : Type 0} (s : State) (y : Shape) (f : Seen → Option A) (J : A → State → Type 0) → ((a : A) → f (seen s y) ≡ Some a → J a s) → Leaving B d s y (Pick f) J
  leaving_pick s y f J h i e g = pick_answers _ i J (λ a k. subst (J a) (sym e) (h a (ap f (sym (alike i.at.state s (raw_at i.tokens i.at.place) y e g)) ∙ k)))

  pub leaving_note : {A : Type 0} (s : State) (y : Shape) (f : Seen → Option A) (J : A → State → Type 0) → ((a : A) → f (seen s y) ≡ Some a → J a (noted y s)) → Leaving B d s y (Note f) J
  leaving_note s y f J h i e g = pick_answers _ (change (noted (raw_at i.tokens i.at.place)) i) J
      (λ a k. subst (λ x. J a (noted x i.at.state)) (sym g) (subst (λ t. J a (noted y t)) (sym e) (h a (ap f (sym (alike i.at.state s (raw_at i.tokens i.at.place) y e g)) ∙ k))))

  pub leaving_bind : {A C : Type 0} (s : State) (y : Shape) (r : Reader C) (f : C → Reader A) (K : C → State → Type 0) (J : A → State → Type 0) → Leaving B d s y r K
      → ((b : C) (t : State) (x : Shape) → K b t → Leaving B d t x (f b) J) → Leaving B d s y (Bind r f) J
  leaving_bind s y r f K J L F i e g a j h = let k = split (run B d r i) (λ b m. run B d (f b) m) a j h in
      F k.value k.place.at.state (raw_at k.place.tokens k.place.at.place) (L i e g k.value k.place k.first) k.place refl refl a j k.second

  pub leaving_fits : {A : Type 0} (s : State) (y : Shape) (n : ℕ) (r : Reader A) (J : A → State → Type 0) → Leaving B d s y r J → Leaving B d s y (Fits n r) J
  leaving_fits s y n r J L i e g = when_answers (nat_lt n d) (run B d r i) i.at.place J (L i e g)

  pub leaving_ask : {A : Type 0} (s : State) (y : Shape) (f : Spot → Reader A) (J : A → State → Type 0) → ((place : ℕ) → Leaving B d s y (f (spot place s)) J) → Leaving B d s y (Ask f) J
  leaving_ask s y f J L i e g a j h = L i.at.place i e g a j (subst (λ t. run B d (f (spot i.at.place t)) i ≡ Ok (a, j)) e h)

  pub leaving_change : {A : Type 0} (s : State) (y : Shape) (event : Event) (r : Reader A) (J : A → State → Type 0) → Leaving B d (happens event s) y r J → Leaving B d s y (Change event r) J
  leaving_change s y event r J L i e g a j h = L (change (happens event) i) (ap (happens event) e) g a j h

  pub leaving_loop : {A S : Type 0} (s : State) (y : Shape) (f : S → Reader (Turn S A)) (t : S) (K : S → State → Type 0) (J : A → State → Type 0) → K t s
      → ((t : S) (z : State) (x : Shape) → K t z → Leaving B d z x (f t) (Turned K J)) → Leaving B d s y (Loop f t) J
  leaving_loop s y f t K J k L i e g a j h = kept (λ t i. run B d (f t) i) (λ t i. K t i.at.state) (λ a i. J a i.at.state)
      (λ t i u j p q. L t i.at.state (raw_at i.tokens i.at.place) p i refl refl (More u) j q)
      (λ t i u j p q. L t i.at.state (raw_at i.tokens i.at.place) p i refl refl (Last u) j q) (d + length i.tokens) t i a j (subst (K t) (sym e) k) h

  pub leaving_more : {A : Type 0} (s : State) (y : Shape) (r : Reader A) (K J : A → State → Type 0) → ((a : A) (z : State) → K a z → J a z) → Leaving B d s y r K → Leaving B d s y r J
  leaving_more s y r K J up L i e g a j h = up a j.at.state (L i e g a j h)

  pub leaving_choose : {A : Type 0} (s : State) (y : Shape) (b : Bool) (r q : Reader A) (J : A → State → Type 0) → (b ≡ true → Leaving B d s y r J) → (b ≡ false → Leaving B d s y q J) → Leaving B d s y (choose b r q) J
  leaving_choose s y true r q J R S = R refl
  leaving_choose s y false r q J R S = S refl

-- a turn that is taken while a test of the next token holds
pub leaves_turn : {S : Type 0} (body : Body) (K J : S → State → Type 0) (goes : S → Seen → Bool) (item : Seen → S → Reader S) (t : S) (s : State) (y : Shape) → (goes t (seen s y) ≡ true → Leaves body s y (item (seen s y) t) K)
    → (goes t (seen s y) ≡ false → J t s) → Leaves body s y (turn_while goes item t) (Turned K J)
leaves_turn body K J goes item t s y L h d = let B : Rule → Input → Outcome Found = below body d in
    leaving_look B d s y (λ x. choose (goes t x) (Bind (item x t) (λ u. Give (More u))) (Give (Last t))) (Turned K J)
    (leaving_choose B d s y (goes t (seen s y)) (Bind (item (seen s y) t) (λ u. Give (More u))) (Give (Last t)) (Turned K J)
    (λ e. leaving_bind B d s y (item (seen s y) t) (λ u. Give (More u)) K (Turned K J) (L e d) (λ u z x k. leaving_give B d z x (More u) (Turned K J) k))
    (λ e. leaving_give B d s y (Last t) (Turned K J) (h e)))

-- what each turn keeps
pub leaves_repeat : {S : Type 0} (body : Body) (K : S → State → Type 0) (goes : S → Seen → Bool) (item : Seen → S → Reader S) (t : S) (s : State) (y : Shape) → K t s
    → ((t : S) (z : State) (x : Shape) → K t z → goes t (seen z x) ≡ true → Leaves body z x (item (seen z x) t) K) → Leaves body s y (repeat goes item t) K
leaves_repeat body K goes item t s y k L d = leaving_loop (below body d) d s y (turn_while goes item) t K K k (λ t z x k. leaves_turn body K K goes item t z x (L t z x k) (λ _. k) d)

-- ---- calls

-- what calls answer meets K, where each rule keeps to it if the calls that it makes do
module _ (body : Body) (K : Rule → State → Shape → Found → State → Type 0)
    (each : (B : Rule → Input → Outcome Found) (d : ℕ) → ((n : Rule) (s : State) (y : Shape) → Leaving B d s y (Call n) (K n s y)) → (n : Rule) (s : State) (y : Shape) → Leaving B d s y (body n) (K n s y)) where
  leaves_below : (d : ℕ) (n : Rule) (s : State) (y : Shape) (i : Input) → i.at.state ≡ s → raw_at i.tokens i.at.place ≡ y → Answers (below body d n i) (K n s y)
  unfolding below
  leaves_below zero n s y i e g a j h = absurd (cc h)
  leaves_below (suc d) n s y i e g a j h = each (below body d) d (λ n s y i e g. leaves_below d n s y i e g) n s y i e g a j h

  pub leaves_call : (n : Rule) (s : State) (y : Shape) → Leaves body s y (Call n) (K n s y)
  leaves_call n s y d i e g = leaves_below d n s y i e g

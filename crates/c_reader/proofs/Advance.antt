-- Readers that take a token, and loops of those.
use Rattle.std.proofs.Common.{◌≡◌, ◌⊎◌, inl, inr, refl, subst, ap, sym, ◌∙◌, ℕ, zero, suc, ◌+◌, ◌-◌, ◌<◌, ◌≤◌, Bool, true, false, List, length, Option, Some, None, Ok, Err, arith}
use Rattle.std.proofs.lemmas.Bool.{cases_lt}
use Rattle.std.proofs.lemmas.List.{get_or_past}
use Rattle.c_tokens.specs.declared.token.Shape.{Shape}
use Rattle.c_tokens.specs.declared.token.Shape.TheVariants as shape
use Rattle.c_reader.specs.declared.refusal.Refusal.{Refusal}
use Rattle.c_tokens.specs.ClassNumbers.{class_number}
use Rattle.c_tokens.specs.ClassOf.{class_of}
use Rattle.c_reader.specs.States.{Seen, seen, happens, noted}
use Rattle.c_reader.specs.Tokens.{Spot, step, turned, seen_at}
use Rattle.c_reader.specs.Readers.{Input, Reader, Outcome, Turn, More, Last, Rule, Body, Give, Refuse, Look, Next, Pick, Note, Bind, Fits, Call, Loop, Ask, Change, read, below, pick, when, and_then, choose, here, turn_while, repeat}
use Rattle.c_reader.proofs.Loops.{split, same_answer, same_pair, Both}
use Rattle.c_reader.proofs.Bounds.{Bounded}
use Rattle.c_reader.proofs.Repeats.{goes_on, ends_with, fails_with}
use Rattle.c_reader.proofs.Local.{from, Onward, onward}

-- An answer comes after a token, where it does of the rules of `Taking`.
module _ (Taking : Rule → Type 0) where
  abbrev pub Takes : {A : Type 0} → Reader A → Type 0
  Takes (Give a) = ⊥
  Takes Refuse = Unit {0}
  Takes (Look f) = (x : Seen) → Takes (f x)
  Takes (Next r) = Unit {0}
  Takes (Pick f) = Unit {0}
  Takes (Note f) = Unit {0}
  Takes (Bind {B = B} r f) = Takes r ⊎ ((b : B) → Takes (f b))
  Takes (Fits h r) = Takes r
  Takes (Call n) = Taking n
  Takes (Change e r) = Takes r
  Takes (Ask f) = (i : Spot) → Takes (f i)
  Takes (Loop f s) = ⊥

abbrev Strict : {A : Type 0} → ℕ → Outcome A → Type 0
Strict i (Ok p) = i < p.1.at.place
Strict i (Err e) = Unit {0}

strict_next : {A : Type 0} (w : List Shape) (i : ℕ) (o : Outcome A) → Onward w (i + 1) o → Strict i o
strict_next w i (Ok p) h = omega (arith, h.1)
strict_next w i (Err e) h = tt

strict_when : {A : Type 0} (i : ℕ) (b : Bool) (o : Outcome A) → Strict i o → Strict i (when b o i)
strict_when i true o h = h
strict_when i false o h = tt

strict_pick : {A : Type 0} (w : List Shape) (i : Spot) (o : Option A) → Strict i.place (pick o (from w i))
strict_pick w i (Some a) = omega arith
strict_pick w i None = tt

behind : {A : Type 0} (w : List Shape) (i j : ℕ) (o : Outcome A) → i < j → Onward w j o → Strict i o
behind w i j (Ok p) less h = omega (arith, h.1)
behind w i j (Err e) less h = tt

-- the first part takes a token, or the second does
strict_first : {A B : Type 0} (w : List Shape) (i : ℕ) (o : Outcome B) (f : B → Input → Outcome A) → Onward w i o → Strict i o
    → ((b : B) (j : Spot) → Onward w j.place (f b (from w j))) → Strict i (and_then o f)
strict_first w i (Ok p) f h s F = behind w i p.1.at.place (f p.0 p.1) s (subst (λ q. Onward w p.1.at.place (f p.0 q)) (sym h.0) (F p.0 p.1.at))
strict_first w i (Err e) f h s F = tt

earlier : {A : Type 0} (i j : ℕ) (o : Outcome A) → i ≤ j → Strict j o → Strict i o
earlier i j (Ok p) le h = omega arith
earlier i j (Err e) le h = tt

strict_second : {A B : Type 0} (w : List Shape) (i : ℕ) (o : Outcome B) (f : B → Input → Outcome A) → Onward w i o
    → ((b : B) (j : Spot) → Strict j.place (f b (from w j))) → Strict i (and_then o f)
strict_second w i (Ok p) f h F = earlier i p.1.at.place (f p.0 p.1) h.1 (subst (λ q. Strict p.1.at.place (f p.0 q)) (sym h.0) (F p.0 p.1.at))
strict_second w i (Err e) f h F = tt

after_it : {A : Type 0} (w : List Shape) (i : ℕ) (o : Outcome A) (a : A) (j : Input) → o ≡ Ok (a, j) → Onward w i o → Strict i o → (j ≡ from w j.at) × (i < j.at.place)
after_it w i o a j e on st = ((rw e at on).0, rw e at st)

module _ (Taking : Rule → Type 0) (body : Body) where
  takes_bind : {A B : Type 0} (d : ℕ) (w : List Shape) (r : Reader B) (f : B → Reader A) (i : Spot) → (Takes Taking r → Strict i.place (read body d r (from w i))) → ((b : B) (j : Spot) → Takes Taking (f b) → Strict j.place (read body d (f b) (from w j)))
      → Takes Taking r ⊎ ((b : B) → Takes Taking (f b)) → Strict i.place (read body d (Bind r f) (from w i))
  takes_bind d w r f i R F (inl a) = strict_first w i.place (read body d r (from w i)) _ (onward body d w r i) (R a) (λ b j. onward body d w (f b) j)
  takes_bind d w r f i R F (inr b) = strict_second w i.place (read body d r (from w i)) _ (onward body d w r i) (λ x j. F x j (b x))

  module _ (d : ℕ) (w : List Shape) (deep : (n : Rule) (i : Spot) → Taking n → Strict i.place (below body d n (from w i))) where
    takes_here : {A : Type 0} (r : Reader A) (i : Spot) → Takes Taking r → Strict i.place (read body d r (from w i))
    takes_here (Give a) i T = absurd T
    takes_here Refuse i T = tt
    takes_here (Look f) i T = takes_here (f (seen_at w i)) i (T (seen_at w i))
    takes_here (Next r) i T = strict_next w i.place (read body d r (from w (step i))) (onward body d w r (step i))
    takes_here (Pick f) i T = strict_pick w i (f (seen_at w i))
    takes_here (Note f) i T = strict_pick w (turned (noted (seen_at w i).shape) i) (f (seen_at w i))
    takes_here (Bind r f) i T = takes_bind d w r f i (takes_here r i) (λ b j. takes_here (f b) j) T
    takes_here (Fits h r) i T = strict_when i.place _ (read body d r (from w i)) (takes_here r i T)
    takes_here (Call n) i T = deep n i T
    takes_here (Ask f) i T = takes_here (f i) i (T i)
    takes_here (Change e r) i T = takes_here r (turned (happens e) i) T
    takes_here (Loop f s) i T = absurd T

  module _ (every : (n : Rule) → Taking n → Takes Taking (body n)) where
    takes_below : (d : ℕ) (w : List Shape) (n : Rule) (i : Spot) → Taking n → Strict i.place (below body d n (from w i))
    unfolding below
    takes_below zero w n i T = tt
    takes_below (suc d) w n i T = takes_here d w (takes_below d w) (body n) i (every n T)

    takes : {A : Type 0} (d : ℕ) (w : List Shape) (r : Reader A) (i : Spot) → Takes Taking r → Strict i.place (read body d r (from w i))
    takes d w r i T = takes_here d w (takes_below d w) r i T

    -- what takes a token comes to a later place of the same tokens
    pub advances : {A : Type 0} (d : ℕ) (r : Reader A) (i : Input) (a : A) (j : Input) → Takes Taking r → read body d r i ≡ Ok (a, j) → (j.tokens ≡ i.tokens) × (i.at.place < j.at.place)
    advances d r i a j T e = let h = after_it i.tokens i.at.place (read body d r i) a j e (onward body d i.tokens r i.at) (takes d i.tokens r i.at T) in (ap (λ k. k.tokens) h.0, h.1)

-- the end, as it is seen in any state
abbrev pub the_end : Seen
the_end = record { shape = shape.End; class = class_number (class_of shape.End) }

pub in_tokens : (w : List Shape) (i : Spot) (goes : Seen → Bool) → goes the_end ≡ false → goes (seen_at w i) ≡ true → i.place < length w
in_tokens w i goes never going = elim (cases_lt i.place (length w)) [
  | inl less ↦ less
  | inr past ↦ absurd (let e : seen_at w i ≡ the_end = ap (seen i.state) (get_or_past w i.place shape.End past) in let f : true ≡ false = sym going ∙ ap goes e ∙ never in cc f)
]

-- ---- loops over a test of the next token

module _ {S : Type 0} (body : Body) (goes : S → Seen → Bool) (item : Seen → S → Reader S) where
  pub choice : (d : ℕ) (s : S) (i : Input) (b : Bool) → goes s (here i) ≡ b
      → read body d (turn_while goes item s) i ≡ read body d (choose b (Bind (item (here i) s) (λ t. Give (More t))) (Give (Last s))) i
  choice d s i b e = ap (λ b. read body d (choose b (Bind (item (here i) s) (λ t. Give (More t))) (Give (Last s))) i) e

  abbrev state : Turn S S → S
  state (More t) = t
  state (Last t) = t

  abbrev Ending : Turn S S → Type 0
  Ending (More t) = ⊥
  Ending (Last t) = Unit {0}

  abbrev Going : Turn S S → Type 0
  Going (More t) = Unit {0}
  Going (Last t) = ⊥

  pub grew : (d : ℕ) (s t : S) (i j : Input) (b : Bool) → read body d (choose b (Bind (item (here i) s) (λ t. Give (More t))) (Give (Last s))) i ≡ Ok (More t, j) → (b ≡ true) × (read body d (item (here i) s) i ≡ Ok (t, j))
  grew d s t i j true e = let a = split (read body d (item (here i) s) i) _ (More t) j e in
      (refl, a.first ∙ ap (λ p. Ok (state p.0, p.1)) (same_pair (More a.value) (More t) a.place j a.second))
  grew d s t i j false e = absurd (subst Ending (same_answer (Last s) (More t) i j e) tt)

  pub stayed : (d : ℕ) (s t : S) (i j : Input) (b : Bool) → read body d (choose b (Bind (item (here i) s) (λ t. Give (More t))) (Give (Last s))) i ≡ Ok (Last t, j) → (b ≡ false) × Both (s, i) (t, j)
  stayed d s t i j true e = let a = split (read body d (item (here i) s) i) _ (Last t) j e in absurd (subst Going (same_answer (More a.value) (Last t) a.place j a.second) tt)
  stayed d s t i j false e = (refl, ap (λ p. (state p.0, p.1)) (same_pair (Last s) (Last t) i j e))

  pub bounded_while : (Taking : Rule → Type 0) (every : (n : Rule) → Taking n → Takes Taking (body n)) → ((x : Seen) (s : S) → Takes Taking (item x s)) → ((s : S) → goes s the_end ≡ false) → Bounded body (turn_while goes item)
  bounded_while Taking every T never = record {
    left = λ d s i. length i.tokens - i.at.place;
    few = λ d s i. omega arith;
    shrinks = λ d. record {
      falls = λ s i t j e.
          let g : (goes s (here i) ≡ true) × (read body d (item (here i) s) i ≡ Ok (t, j)) = grew d s t i j (goes s (here i)) e in
          let a : (j.tokens ≡ i.tokens) × (i.at.place < j.at.place) = advances Taking body every d (item (here i) s) i t j (T (here i) s) g.1 in
          let l : i.at.place < length i.tokens = in_tokens i.tokens i.at (goes s) (never s) g.0 in
          let same : length j.tokens ≡ length i.tokens = ap length a.0 in
          omega arith;
    };
  }

  pub again : (B : Bounded body (turn_while goes item)) (d : ℕ) (s t : S) (i j : Input) → goes s (here i) ≡ true → read body d (item (here i) s) i ≡ Ok (t, j) → read body d (repeat goes item s) i ≡ read body d (repeat goes item t) j
  again B d s t i j y e = goes_on body (turn_while goes item) B d s i t j (choice d s i true y ∙ ap (λ o. and_then o (λ t j. Ok (More t, j))) e)

  pub over : (B : Bounded body (turn_while goes item)) (d : ℕ) (s : S) (i : Input) → goes s (here i) ≡ false → read body d (repeat goes item s) i ≡ Ok (s, i)
  over B d s i y = ends_with body (turn_while goes item) B d s i s i (choice d s i false y)

  pub broken : (B : Bounded body (turn_while goes item)) (d : ℕ) (s : S) (i : Input) (x : Refusal) → goes s (here i) ≡ true → read body d (item (here i) s) i ≡ Err x → read body d (repeat goes item s) i ≡ Err x
  broken B d s i x y e = fails_with body (turn_while goes item) B d s i x (choice d s i true y ∙ ap (λ o. and_then o (λ t j. Ok (More t, j))) e)

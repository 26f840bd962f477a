-- Words that are new: those of a completion are greater than all that stand before them, so none of them is a type.
use Rattle.std.proofs.Common.{◌≡◌, refl, subst, ap, sym, ◌∙◌, ℕ, zero, suc, ◌+◌, ◌<◌, ◌≤◌, nat_lt, not, Bool, true, false, ◌&&◌, List, [], ◌∷◌, ◌++◌, length, Option, Some, None, Ok, Err, nat_eq, if◌then◌else◌, arith}
use Rattle.c_tokens.specs.declared.token.Shape.{Shape}
use Rattle.c_tokens.specs.declared.token.Shape.TheVariants as shape
use Rattle.c_forms.specs.declared.pieces.Event.{Event}
use Rattle.c_forms.specs.declared.pieces.Event.TheVariants.{Enter, Leave, Begin, Typedef, Typed, SoleType, Declare, DeclareValue, Aside, Resume, Statements, Seal, Close, FunctionDue, Open, Shut}
use Rattle.c_reader.specs.declared.refusal.Refusal.TheVariants.{TooDeep}
use Rattle.c_reader.specs.States.{State, Entry, Edge, AsType, AsValue, Near, Bare, Parameters, Other, Kept, is_type, word_class, outside, innermost, sealed, with_parameters, parameters, entry, declared, top, happens, number_of, noted}
use Rattle.c_reader.specs.States as s
use Rattle.c_reader.specs.Tokens.{Spot, step, turned, raw_at, seen_at, class_at}
use Rattle.c_reader.specs.Readers.{Input, Reader, Outcome, Turn, More, Last, Rule, Body, Found, Give, Refuse, Look, Next, Pick, Note, Bind, Fits, Call, Loop, Ask, Change, run, read, below, pick, when, and_then, after, loop}
use Rattle.c_reader.proofs.Sets.{same_class}
use Rattle.c_reader.proofs.Seen.{word}
use Rattle.c_reader.proofs.Local.{from}

-- each type among them is less than n
abbrev pub Lows : ℕ → List Entry → Type 0
Lows n [] = Unit {0}
Lows n (Edge b ∷ es) = Lows n es
Lows n (AsType m ∷ es) = (m < n) × Lows n es
Lows n (AsValue m ∷ es) = Lows n es

abbrev pub LowNear : ℕ → Near → Type 0
LowNear n Bare = Unit {0}
LowNear n (Parameters es) = Lows n es
LowNear n Other = Unit {0}

abbrev pub LowName : ℕ → Option ℕ → Type 0
LowName n (Some m) = m < n
LowName n None = Unit {0}

abbrev pub Low : ℕ → Kept → Type 0
Low n k = LowName n k.name × LowNear n k.near

abbrev pub AllLow : ℕ → List Kept → Type 0
AllLow n [] = Unit {0}
AllLow n (k ∷ ks) = Low n k × AllLow n ks

abbrev pub Under : ℕ → State → Type 0
Under n z = Lows n z.entries × (Low n z.kept × AllLow n z.aside)

-- ---- greater bounds

pub up_lows : (n m : ℕ) → n ≤ m → (es : List Entry) → Lows n es → Lows m es
up_lows n m le [] L = tt
up_lows n m le (Edge b ∷ es) L = up_lows n m le es L
up_lows n m le (AsType k ∷ es) L = (omega (arith, L.0), up_lows n m le es L.1)
up_lows n m le (AsValue k ∷ es) L = up_lows n m le es L

pub up_near : (n m : ℕ) → n ≤ m → (x : Near) → LowNear n x → LowNear m x
up_near n m le Bare L = tt
up_near n m le (Parameters es) L = up_lows n m le es L
up_near n m le Other L = tt

pub up_name : (n m : ℕ) → n ≤ m → (o : Option ℕ) → LowName n o → LowName m o
up_name n m le (Some k) L = omega (arith, L)
up_name n m le None L = tt

pub up_low : (n m : ℕ) → n ≤ m → (k : Kept) → Low n k → Low m k
up_low n m le k L = (up_name n m le k.name L.0, up_near n m le k.near L.1)

pub up_all : (n m : ℕ) → n ≤ m → (ks : List Kept) → AllLow n ks → AllLow m ks
up_all n m le [] L = tt
up_all n m le (k ∷ ks) L = (up_low n m le k L.0, up_all n m le ks L.1)

pub up_under : (n m : ℕ) → n ≤ m → (z : State) → Under n z → Under m z
up_under n m le z U = (up_lows n m le z.entries U.0, (up_low n m le z.kept U.1.0, up_all n m le z.aside U.1.1))

-- ---- what happens

outer_lows : (n : ℕ) (es : List Entry) → Lows n es → Lows n (outside es)
outer_lows n [] L = tt
outer_lows n (Edge b ∷ es) L = L
outer_lows n (AsType k ∷ es) L = outer_lows n es L.1
outer_lows n (AsValue k ∷ es) L = outer_lows n es L

inner_lows : (n : ℕ) (es : List Entry) → Lows n es → Lows n (innermost es)
inner_lows n [] L = tt
inner_lows n (Edge b ∷ es) L = tt
inner_lows n (AsType k ∷ es) L = (L.0, inner_lows n es L.1)
inner_lows n (AsValue k ∷ es) L = inner_lows n es L

append_lows : (n : ℕ) (a b : List Entry) → Lows n a → Lows n b → Lows n (a ++ b)
append_lows n [] b A B = B
append_lows n (Edge c ∷ es) b A B = append_lows n es b A B
append_lows n (AsType k ∷ es) b A B = (A.0, append_lows n es b A.1 B)
append_lows n (AsValue k ∷ es) b A B = append_lows n es b A B

sealed_low : (n : ℕ) (x : Near) → LowNear n x → LowNear n (sealed x)
sealed_low n Bare L = tt
sealed_low n (Parameters es) L = L
sealed_low n Other L = tt

with_low : (n : ℕ) (es : List Entry) (x : Near) → Lows n es → LowNear n x → LowNear n (with_parameters es x)
with_low n es Bare E L = E
with_low n es (Parameters fs) E L = L
with_low n es Other E L = tt

parameters_low : (n : ℕ) (x : Near) → LowNear n x → Lows n (parameters x)
parameters_low n Bare L = tt
parameters_low n (Parameters es) L = L
parameters_low n Other L = tt

entry_low : (n : ℕ) (b : Bool) (m : ℕ) (es : List Entry) → m < n → Lows n es → Lows n (entry b m ∷ es)
entry_low n true m es le L = (le, L)
entry_low n false m es le L = L

name_low : (n : ℕ) (b : Bool) (o : Option ℕ) (es : List Entry) → LowName n o → Lows n es → Lows n (declared (entry b) o es)
name_low n b (Some m) es le L = entry_low n b m es le L
name_low n b None es le L = L

value_low : (n : ℕ) (o : Option ℕ) (es : List Entry) → Lows n es → Lows n (declared AsValue o es)
value_low n (Some m) es L = L
value_low n None es L = L

top_low : (n : ℕ) → 0 < n → (ks : List Kept) → AllLow n ks → Low n (top ks)
top_low n some [] L = (tt, tt)
top_low n some (k ∷ ks) L = L.0

under_low : (n : ℕ) (ks : List Kept) → AllLow n ks → AllLow n (s.under ks)
under_low n [] L = tt
under_low n (k ∷ ks) L = L.1

happens_low : (n : ℕ) → 0 < n → (e : Event) (z : State) → Under n z → Under n (happens e z)
happens_low n some Enter z U = U
happens_low n some Leave z U = (outer_lows n z.entries U.0, U.1)
happens_low n some Begin z U = (U.0, ((tt, tt), U.1.1))
happens_low n some Typedef z U = U
happens_low n some Typed z U = U
happens_low n some SoleType z U = U
happens_low n some Declare z U = (name_low n z.kept.is_typedef z.kept.name z.entries U.1.0.0 U.0, U.1)
happens_low n some DeclareValue z U = (value_low n z.kept.name z.entries U.0, U.1)
happens_low n some Aside z U = (U.0, ((tt, tt), U.1))
happens_low n some Resume z U = (U.0, (top_low n some z.aside U.1.1, under_low n z.aside U.1.1))
happens_low n some Statements z U = U
happens_low n some FunctionDue z U = U
happens_low n some Seal z U = (U.0, ((U.1.0.0, sealed_low n z.kept.near U.1.0.1), U.1.1))
happens_low n some Close z U = let t : Low n (top z.aside) = top_low n some z.aside U.1.1 in
    (outer_lows n z.entries U.0, ((t.0, with_low n (innermost z.entries) (top z.aside).near (inner_lows n z.entries U.0) t.1), under_low n z.aside U.1.1))
happens_low n some Open z U = (append_lows n (parameters z.kept.near) (Edge z.is_late ∷ declared AsValue z.kept.name z.entries) (parameters_low n z.kept.near U.1.0.1) (value_low n z.kept.name z.entries U.0), ((tt, tt), U.1.1))
happens_low n some Shut z U = (outer_lows n z.entries U.0, ((tt, tt), U.1.1))

-- ---- what is read

module _ (N : ℕ) (v : List Shape) (some : 0 < N) (rising : (k : ℕ) → number_of (raw_at v k) < N + k + 1) where
  abbrev Keeps : {A : Type 0} → Outcome A → Type 0
  Keeps (Ok p) = (p.1 ≡ from v p.1.at) × Under (N + p.1.at.place) p.1.at.state
  Keeps (Err e) = Unit {0}

  stepped : (i : Spot) → Under (N + i.place) i.state → Under (N + (i.place + 1)) i.state
  stepped i U = up_under (N + i.place) (N + (i.place + 1)) (omega arith) i.state U

  noted_low : (i : Spot) → Under (N + i.place) i.state → Under (N + (i.place + 1)) (noted (raw_at v i.place) i.state)
  noted_low i U = let L = stepped i U in (L.0, ((omega (arith, rising i.place), tt), L.1.1))

  keeps_pick : {A : Type 0} (i : Spot) (o : Option A) → Under (N + (i.place + 1)) i.state → Keeps (pick o (from v i))
  keeps_pick i (Some a) U = (refl, U)
  keeps_pick i None U = tt

  keeps_when : {A : Type 0} (b : Bool) (o : Outcome A) (n : ℕ) → Keeps o → Keeps (when b o n)
  keeps_when true o n K = K
  keeps_when false o n K = tt

  keeps_bind : {A B : Type 0} (o : Outcome B) (f : B → Input → Outcome A) → Keeps o → ((b : B) (j : Spot) → Under (N + j.place) j.state → Keeps (f b (from v j))) → Keeps (and_then o f)
  keeps_bind (Ok p) f K F = subst (λ q. Keeps (f p.0 q)) (sym K.0) (F p.0 p.1.at K.1)
  keeps_bind (Err e) f K F = tt

  keeps_after : {A S : Type 0} (f : S → Input → Outcome A) → ((t : S) (j : Spot) → Under (N + j.place) j.state → Keeps (f t (from v j))) → (t : Turn S A) (j : Spot) → Under (N + j.place) j.state → Keeps (after f t (from v j))
  keeps_after f F (More t) j U = F t j U
  keeps_after f F (Last a) j U = (refl, U)

  keeps_loop : {A S : Type 0} (n : ℕ) (turn : S → Input → Outcome (Turn S A)) → ((t : S) (j : Spot) → Under (N + j.place) j.state → Keeps (turn t (from v j))) → (t : S) (i : Spot) → Under (N + i.place) i.state → Keeps (loop n turn t (from v i))
  unfolding loop
  keeps_loop zero turn F t i U = keeps_bind (turn t (from v i)) _ (F t i U) (keeps_after (λ _ j. Err (TooDeep j.at.place)) (λ _ j U. tt))
  keeps_loop (suc n) turn F t i U = keeps_bind (turn t (from v i)) _ (F t i U) (keeps_after (loop n turn) (keeps_loop n turn F))

  module _ (B : Rule → Input → Outcome Found) (d : ℕ) (h : (n : Rule) (i : Spot) → Under (N + i.place) i.state → Keeps (B n (from v i))) where
    keeps_run : {A : Type 0} (r : Reader A) (i : Spot) → Under (N + i.place) i.state → Keeps (run B d r (from v i))
    keeps_run (Give a) i U = (refl, U)
    keeps_run Refuse i U = tt
    keeps_run (Look f) i U = keeps_run (f (seen_at v i)) i U
    keeps_run (Next r) i U = keeps_run r (step i) (stepped i U)
    keeps_run (Pick f) i U = keeps_pick i (f (seen_at v i)) (stepped i U)
    keeps_run (Note f) i U = keeps_pick (turned (noted (raw_at v i.place)) i) (f (seen_at v i)) (noted_low i U)
    keeps_run (Bind r f) i U = keeps_bind (run B d r (from v i)) _ (keeps_run r i U) (λ b j. keeps_run (f b) j)
    keeps_run (Fits n r) i U = keeps_when (nat_lt n d) (run B d r (from v i)) i.place (keeps_run r i U)
    keeps_run (Call n) i U = h n i U
    keeps_run (Ask f) i U = keeps_run (f i) i U
    keeps_run (Change e r) i U = keeps_run r (turned (happens e) i) (happens_low (N + i.place) (omega (arith, some)) e i.state U)
    keeps_run (Loop f t) i U = keeps_loop (d + length v) _ (λ t j. keeps_run (f t) j) t i U

  module _ (body : Body) where
    keeps_below : (d : ℕ) (n : Rule) (i : Spot) → Under (N + i.place) i.state → Keeps (below body d n (from v i))
    unfolding below
    keeps_below zero n i U = tt
    keeps_below (suc d) n i U = keeps_run (below body d) d (keeps_below d) (body n) i U

  kept_there : {A : Type 0} (o : Outcome A) (a : A) (m : Spot) → o ≡ Ok (a, from v m) → Keeps o → Under (N + m.place) m.state
  kept_there o a m e K = (rw e at K).1

  -- what a reader keeps
  pub keeps : {A : Type 0} (body : Body) (d : ℕ) (r : Reader A) (i : Spot) → Under (N + i.place) i.state → (a : A) (m : Spot) → read body d r (from v i) ≡ Ok (a, from v m) → Under (N + m.place) m.state
  keeps body d r i U a m e = kept_there (read body d r (from v i)) a m e (keeps_run (below body d) d (keeps_below body d) r i U)

-- Each word of v is less than N and its place together, and each type at this spot is less than N and the spot's.
pub record Fresh (N : ℕ) (v : List Shape) (i : Spot) : Type 0 where
  pub some : 0 < N
  pub rising : (k : ℕ) → number_of (raw_at v k) < N + k + 1
  pub under : Under (N + i.place) i.state

-- it stays so
pub freshly : {A : Type 0} (body : Body) (N : ℕ) (v : List Shape) (i : Spot) → Fresh N v i → (d : ℕ) (r : Reader A) (a : A) (m : Spot) → read body d r (from v i) ≡ Ok (a, from v m) → Fresh N v m
freshly body N v i F d r a m e = record { some = F.some; rising = F.rising; under = keeps N v F.some F.rising body d r i F.under a m e }

pub fresh_step : (N : ℕ) (v : List Shape) (i : Spot) → Fresh N v i → Fresh N v (step i)
fresh_step N v i F = record { some = F.some; rising = F.rising; under = stepped N v F.some F.rising i F.under }

pub fresh_event : (N : ℕ) (v : List Shape) (i : Spot) (e : Event) → Fresh N v i → Fresh N v (turned (happens e) i)
fresh_event N v i e F = record { some = F.some; rising = F.rising; under = happens_low (N + i.place) (omega (arith, F.some)) e i.state F.under }

-- ---- such a word is no type

no_same : (n m : ℕ) (b : Bool) → m < n → nat_eq n m ≡ b → b ≡ false
no_same n m false less e = refl
no_same n m true less e = absurd (let h : n ≡ m = same_class n m e in omega arith)

no_type_low : (n : ℕ) (es : List Entry) → Lows n es → is_type es n ≡ false
no_type_low n [] L = refl
no_type_low n (Edge b ∷ es) L = no_type_low n es L
no_type_low n (AsType m ∷ es) L = rw (no_same n m (nat_eq n m) L.0 refl) (no_type_low n es L.1)
no_type_low n (AsValue m ∷ es) L = by_test (nat_eq n m) (no_type_low n es L)
  where
    by_test : (b : Bool) → is_type es n ≡ false → (if b then false else is_type es n) ≡ false
    by_test true h = refl
    by_test false h = h

and_off : (a b : Bool) → b ≡ false → (a && b) ≡ false
and_off true b e = e
and_off false b e = refl

pub new_word : (N : ℕ) (v : List Shape) (i : Spot) → Fresh N v i → raw_at v i.place ≡ shape.Word (record { 0 = N + i.place }) → class_at v i ≡ word
new_word N v i F e = ap (s.class i.state) e ∙ ap word_class (and_off (not i.state.kept.has_type) (is_type i.state.entries (N + i.place)) (no_type_low (N + i.place) i.state.entries F.under.0))

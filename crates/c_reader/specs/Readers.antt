-- What a reader of tokens decides, as a value.
use Rattle.std.specs.Prelude.{◌≡◌, ◌≢◌, ℕ, zero, suc, ◌+◌, nat_lt, nat_eq, Bool, true, false, List, length, Option, Some, None, Result, Ok, Err}
use Rattle.c_tokens.specs.declared.token.Shape.{Shape}
use Rattle.c_forms.specs.declared.pieces.Event.{Event}
use Rattle.c_forms.specs.declared.pieces.Sort.{Sort}
use Rattle.c_forms.specs.Forests.{Plain}
use Rattle.c_reader.specs.declared.refusal.Refusal.{Refusal}
use Rattle.c_reader.specs.declared.refusal.Refusal.TheVariants.{Memory, Syntax, TooDeep}
use Rattle.c_reader.specs.States.{State, Seen, happens, noted}
use Rattle.c_reader.specs.Tokens.{Spot, step, turned, seen_at}

-- tokens, and where the next one is
pub record Input : Type 0 where
  pub tokens : List Shape
  pub at : Spot

abbrev pub here : Input → Seen
here i = seen_at i.tokens i.at

abbrev pub next : Input → Input
next i = record i { at = step i.at }

abbrev pub change : (State → State) → Input → Input
change f i = record i { at = turned f i.at }

-- A tree, and its height as it is spelled: each pair of parentheses that is added counts one.
pub record Found : Type 0 where
  pub tree : Plain
  pub height : ℕ

-- what lies one level deeper, and is reached by a call
pub data Rule : Type 0 where
  -- a tree of a sort, of this level or a higher one
  Of : Sort → ℕ → Rule
  -- an operand that begins in parentheses, after the first of them
  Opened : Rule

-- a turn of a loop goes on with a state, or ends with an answer
pub data Turn (S A : Type 0) : Type 0 where
  More : S → Turn S A
  Last : A → Turn S A

pub data Reader : Type 0 → Type 1 where
  Give : {A : Type 0} → A → Reader A
  Refuse : {A : Type 0} → Reader A
  Look : {A : Type 0} → (Seen → Reader A) → Reader A
  -- takes the token, whatever it is
  Next : {A : Type 0} → Reader A → Reader A
  -- takes a token of which something is made, and refuses any other
  Pick : {A : Type 0} → (Seen → Option A) → Reader A
  -- and notes it as the name of a declarator
  Note : {A : Type 0} → (Seen → Option A) → Reader A
  Bind : {A B : Type 0} → Reader B → (B → Reader A) → Reader A
  -- goes on where a level above this height is left
  Fits : {A : Type 0} → ℕ → Reader A → Reader A
  Call : Rule → Reader Found
  Loop : {A S : Type 0} → (S → Reader (Turn S A)) → S → Reader A
  -- asks where it stands, and what is known there
  Ask : {A : Type 0} → (Spot → Reader A) → Reader A
  Change : {A : Type 0} → Event → Reader A → Reader A

abbrev pub Outcome : Type 0 → Type 0
Outcome A = Result (A × Input) Refusal

abbrev pub and_then : {A B : Type 0} → Outcome A → (A → Input → Outcome B) → Outcome B
and_then (Ok p) f = f p.0 p.1
and_then (Err e) f = Err e

abbrev pub when : {A : Type 0} → Bool → Outcome A → ℕ → Outcome A
when true o place = o
when false o place = Err (TooDeep place)

abbrev pub after : {A S : Type 0} → (S → Input → Outcome A) → Turn S A → Input → Outcome A
after more (More s) j = more s j
after more (Last a) j = Ok (a, j)

abbrev pub pick : {A : Type 0} → Option A → Input → Outcome A
pick (Some a) i = Ok (a, next i)
pick None i = Err (Syntax i.at.place)

-- at most `n` turns go on
unfoldable pub loop : {A S : Type 0} → ℕ → (S → Input → Outcome (Turn S A)) → S → Input → Outcome A
loop zero turn s i = and_then (turn s i) (after (λ _ j. Err (TooDeep j.at.place)))
loop (suc n) turn s i = and_then (turn s i) (after (loop n turn))

-- `below` is what calls answer, and `d` how many levels are left
abbrev pub run : {A : Type 0} → (Rule → Input → Outcome Found) → ℕ → Reader A → Input → Outcome A
run below d (Give a) i = Ok (a, i)
run below d Refuse i = Err (Syntax i.at.place)
run below d (Look f) i = run below d (f (here i)) i
run below d (Next r) i = run below d r (next i)
run below d (Pick f) i = pick (f (here i)) i
run below d (Note f) i = pick (f (here i)) (change (noted (here i).shape) i)
run below d (Bind r f) i = and_then (run below d r i) (λ a j. run below d (f a) j)
run below d (Fits h r) i = when (nat_lt h d) (run below d r i) i.at.place
run below d (Call n) i = below n i
run below d (Ask f) i = run below d (f i.at) i
run below d (Change e r) i = run below d r (change (happens e) i)
run below d (Loop f s) i = loop (d + length i.tokens) (λ s j. run below d (f s) j) s i

-- what each rule reads
abbrev pub Body : Type 1
Body = Rule → Reader Found

-- what calls answer where so many levels are left
unfoldable pub below : Body → ℕ → Rule → Input → Outcome Found
below body zero n i = Err (TooDeep i.at.place)
below body (suc d) n i = run (below body d) d (body n) i

abbrev pub read : {A : Type 0} → Body → ℕ → Reader A → Input → Outcome A
read body d r i = run (below body d) d r i

-- what a function that reads ensures: the reader's outcome, unless memory fails
abbrev pub Reads : {A : Type 0} → Outcome A → Result A Refusal → Input → Type 0
Reads outcome (Ok a) new = outcome ≡ Ok (a, new)
Reads outcome (Err e) new = e ≢ Memory → outcome ≡ Err e

infixl 10 ◌>>=◌
abbrev pub ◌>>=◌ : {A B : Type 0} → Reader A → (A → Reader B) → Reader B
r >>= f = Bind r f

infixl 10 ◌>>◌
abbrev pub ◌>>◌ : {A B : Type 0} → Reader A → Reader B → Reader B
r >> q = Bind r (λ _. q)

abbrev pub choose : {A : Type 0} → Bool → Reader A → Reader A → Reader A
choose true r q = r
choose false r q = q

abbrev pub only : Bool → Option (Unit {0})
only true = Some tt
only false = None

-- a token of this class
abbrev pub token : ℕ → Reader (Unit {0})
token class = Pick (λ x. only (nat_eq x.class class))

-- a turn is taken while the token is one that goes on
abbrev pub turn_while : {S : Type 0} → (S → Seen → Bool) → (Seen → S → Reader S) → S → Reader (Turn S S)
turn_while goes item s = Look (λ x. choose (goes s x) (Bind (item x s) (λ t. Give (More t))) (Give (Last s)))

abbrev pub repeat : {S : Type 0} → (S → Seen → Bool) → (Seen → S → Reader S) → S → Reader S
repeat goes item s = Loop (turn_while goes item) s

-- A node of a form can be completed, whether it counts for the height or not.
use Rattle.std.proofs.Common.{◌≡◌, refl, ℕ, ◌<◌, not, Bool, true, false, ◌||◌, List, arith}
use Rattle.c_tokens.specs.declared.token.Shape.{Shape}
use Rattle.c_forms.specs.declared.pieces.Sort.{Sort}
use Rattle.c_forms.specs.declared.pieces.Sort.TheVariants as s
use Rattle.c_forms.specs.declared.pieces.Piece.{Piece}
use Rattle.c_forms.specs.declared.forms.Form.{Form}
use Rattle.c_forms.specs.Measures.{pieces}
use Rattle.c_forms.specs.Sets.{Classes}
use Rattle.c_reader.specs.States.{State, Kept, class}
use Rattle.c_reader.proofs.Sets.{both}
use Rattle.c_reader.proofs.Live.{Live}
use Rattle.c_syntax.specs.Reading.{Usual, Parts, Listed, nothing, called, parts_by, is_starred, completed}
use Rattle.c_syntax.specs.Grammar.{body, whole, charged}
use Rattle.c_alive.proofs.Kept.{Still, is_item}
use Rattle.c_alive.proofs.Phrased.{none_of}
use Rattle.c_alive.proofs.FitRows.{is_reached}
use Rattle.c_alive.proofs.Rows.{Known, Ending, Able, fit_from, begins_with, live_pieces, begun_pieces}
use Rattle.c_alive.proofs.Nodes.{live_completed, begun_completed}
use Rattle.c_alive.proofs.Operands.{kept_called}
use Rattle.c_alive.proofs.Called.{calls, live_called}
use Rattle.c_lively.proofs.Ranks.{met}
use Rattle.c_lively.proofs.Endings.{calling}

pub no_item : (due : Sort) (least : ℕ) → met due least ≡ true → is_item due ≡ false
no_item s.Item least h = absurd (cc h)
no_item _ least h = refl

at_level : (due : Sort) (least : ℕ) → met due least ≡ true → is_reached due least ≡ true
at_level due least h = (both (is_reached due least) _ h).0

-- the parts that are called
pub callable : (deep : ℕ) → 0 < deep → Able calls deep called met
callable deep room = record { lives = λ due least h a z y k. live_called deep room due least (no_item due least h) (at_level due least h) a z y k; leaves = λ due least h a z y k. kept_called due least (no_item due least h) a z y k }

-- whether the node counts for the height or not
pub calling_by : (b : Bool) → Ending (parts_by b called) met
calling_by true = calling
calling_by false = calling

pub callable_by : (deep : ℕ) → 0 < deep → (b : Bool) → Able calls deep (parts_by b called) met
callable_by deep room true = callable deep room
callable_by deep room false = callable deep room

abbrev pub known_by : Bool → Known → Known
known_by true known = met
known_by false known = known

-- whether the row of a form can be completed, where these sorts are known in place
abbrev pub fits : Known → Sort → Form → List Piece → Classes → Bool
fits known own f ps out = fit_from (known_by (is_starred f) known) (known_by (is_starred f) known) own false ps out

-- a node that counts for the height begins with the token that stands there
abbrev pub starts_so : Form → State → Shape → Bool
starts_so f z y = not (is_starred f) || begins_with f (pieces f) (class z y)

module _ (deep : ℕ) (inner : Parts) (known : Known) (E : Ending inner known) (L : Able calls deep inner known) (own : Sort) (f : Form) (out : Classes) (a : List Kept) where
  abbrev Held : {A : Type 0} → A → State → Type 0
  Held x t = Still a t

  live_charged : (place : ℕ) (z : State) (y : Shape) → Still a z → (b : Bool) → fit_from (known_by b known) (known_by b known) own false (pieces f) out ≡ true → (not b || begins_with f (pieces f) (class z y)) ≡ true
      → Live body calls deep z y (none_of out) Held (charged b (completed (parts_by b inner) own f place nothing (pieces f)))
  live_charged place z y k true h o = (
    begun_completed (Still a) (none_of out) called own f place nothing (pieces f) z y (begun_pieces called own f met met calling out false Usual (pieces f) h a z y k o),
    live_completed (Still a) (none_of out) called own f place nothing (pieces f) calls 1 z y (live_pieces calls 1 called own f met met calling (callable 1 (omega arith)) out false Usual (pieces f) h a z y k),
  )
  live_charged place z y k false h o = live_completed (Still a) (none_of out) inner own f place nothing (pieces f) calls deep z y (live_pieces calls deep inner own f known known E L out false Usual (pieces f) h a z y k)

  pub live_whole : fits known own f (pieces f) out ≡ true → (z : State) (y : Shape) → starts_so f z y ≡ true → Still a z → Live body calls deep z y (none_of out) Held (whole inner own f)
  unfolding whole
  live_whole h z y o k = λ place. live_charged place z y k (is_starred f) h o

  -- after the first parts of one that counts for none
  pub live_rest : is_starred f ≡ false → (ps : List Piece) → fit_from known known own false ps out ≡ true → (i : ℕ) (done : Listed) (z : State) (y : Shape) → Still a z → Live body calls deep z y (none_of out) Held (completed inner own f i done ps)
  live_rest low ps h i done z y k = live_completed (Still a) (none_of out) inner own f i done ps calls deep z y (live_pieces calls deep inner own f known known E L out false Usual ps h a z y k)

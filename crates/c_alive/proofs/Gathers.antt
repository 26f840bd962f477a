-- Every repetition of a row can be completed, where each of its elements can.
use Rattle.std.proofs.Common.{◌≡◌, refl, ℕ, not, Bool, true, false, ◌||◌, nat_eq, List, [], ◌∷◌, ◌++◌}
use Rattle.std.proofs.lemmas.Bool.{and_from}
use Rattle.c_tokens.specs.declared.token.Shape.{Shape}
use Rattle.c_tokens.specs.declared.class.Class.{Class}
use Rattle.c_forms.specs.declared.pieces.Sort.{Sort}
use Rattle.c_forms.specs.declared.pieces.Repetition.{Repetition}
use Rattle.c_forms.specs.declared.pieces.Repetition.TheVariants.{Optional, Greedy, Due, All, Any, Many, Spliced, Ended}
use Rattle.c_forms.specs.Sets.{Classes, has, within, starts, element_starts, goes_on_with}
use Rattle.c_reader.specs.States.{State, class}
use Rattle.c_reader.specs.Readers.{Reader, Found, Give, Bind, choose, turn_while}
use Rattle.c_reader.proofs.Bounds.{Bounded}
use Rattle.c_reader.proofs.Sets.{contrary, itself, within_more, within_before}
use Rattle.c_reader.proofs.Seen.{written}
use Rattle.c_reader.proofs.Leaves.{Leaves}
use Rattle.c_reader.proofs.Phrases.{Tokens, Finishes, quiet, fin_give, fin_ask, fin_look, fin_look_past, fin_choose, fin_fewer, fin_map}
use Rattle.c_reader.proofs.Live.{Calls, Live, live_choose, live_map}
use Rattle.c_syntax.specs.Reading.{Before, Gathered, none_at, is_class, is_missing, separated, separator_of, goes, element_after, others, many, at_most_one, any_number, gathered_by, gathered}
use Rattle.c_syntax.specs.Grammar.{body}
use Rattle.c_alive.proofs.Tame.{Firm, takes, sound, is_loop, bounded_group}
use Rattle.c_alive.proofs.Phrased.{none_of, none_within, past, phrase, group_phrase, by_least, live_fewer}
use Rattle.c_alive.proofs.Groups.{fin_others, live_element, fin_element, live_others, live_some, fin_some, live_at_most, fin_at_most}

-- ---- what may not follow a repetition

-- what begins an element of a repetition that may have none
abbrev none_starts : Repetition → Sort → Classes
none_starts Due due = []
none_starts All due = []
none_starts (Ended separator end_token) due = []
none_starts Optional due = starts due
none_starts Greedy due = starts due
none_starts r due = element_starts r due

abbrev pub group_past : Repetition → Sort → ℕ → Classes
group_past r due least = past due least ++ (goes_on_with r (element_starts r due) ++ none_starts r due)

within_self : (a : Classes) → within a a ≡ true
within_self [] = refl
within_self (x ∷ a) = and_from (has (x ∷ a) x) (within a (x ∷ a)) (by_same (nat_eq x x) (itself x)) (within_before a (x ∷ []) a (within_self a))
  where
    by_same : (b : Bool) → b ≡ true → (b || has a x) ≡ true
    by_same true h = refl
    by_same false h = absurd (cc h)

pub within_left : (a b : Classes) → within a (a ++ b) ≡ true
within_left a b = within_more a a b (within_self a)

pub within_right : (a b : Classes) → within b (a ++ b) ≡ true
within_right a b = within_before b a b (within_self b)

-- whether what opens a phrase is one of a set
abbrev pub opens_as : Classes → List Shape → Bool
opens_as set [] = false
opens_as set (x ∷ u) = has set (written x)

-- and none of the class of an end
abbrev pub opens_not : Class → List Shape → Bool
opens_not c [] = false
opens_not c (x ∷ u) = not (is_class c (record { shape = x; class = written x }))

-- whether the phrase of a repetition completes it
abbrev pub group_ends : Repetition → Sort → Bool
group_ends Due due = opens_as (starts due) (phrase due)
group_ends (Ended separator end_token) due = opens_not end_token (phrase due)
group_ends (Many separator least) due = opens_as (element_starts (Many separator least) due) (phrase due)
group_ends (Spliced separator least) due = opens_as (element_starts (Spliced separator least) due) (phrase due)
group_ends r due = true

-- the repetitions after which nothing says that they ended
abbrev pub is_plain : Repetition → Bool
is_plain (Ended separator end_token) = false
is_plain r = true

abbrev by : Repetition → Sort → Reader Found → Gathered → Reader Gathered
by r due element g = separated (separator_of r) (element_after element g)

module _ (due : Sort) (least : ℕ) where
  abbrev pub after_them : Repetition → Tokens
  after_them r = none_of (group_past r due least)

  pub fewer : (r : Repetition) (x : Shape) → after_them r x ≡ true → none_of (past due least) x ≡ true
  fewer r x q = none_within (past due least) (group_past r due least) x (within_left (past due least) (goes_on_with r (element_starts r due) ++ none_starts r due)) q

  pub over : (r : Repetition) (z : State) (x : Shape) → after_them r x ≡ true → has (goes_on_with r (element_starts r due)) (class z x) ≡ false
  over r z x q = quiet (goes_on_with r (element_starts r due)) z x (none_within (goes_on_with r (element_starts r due)) (group_past r due least) x
      (within_before (goes_on_with r (element_starts r due)) (past due least) (goes_on_with r (element_starts r due) ++ none_starts r due) (within_left (goes_on_with r (element_starts r due)) (none_starts r due))) q)

  none : (r : Repetition) (z : State) (x : Shape) → after_them r x ≡ true → has (none_starts r due) (class z x) ≡ false
  none r z x q = quiet (none_starts r due) z x (none_within (none_starts r due) (group_past r due least) x
      (within_before (none_starts r due) (past due least) (goes_on_with r (element_starts r due) ++ none_starts r due) (within_right (goes_on_with r (element_starts r due)) (none_starts r due))) q)

-- ---- what completes a repetition

-- whether it needs an element
abbrev pub needs : Repetition → Bool
needs Optional = false
needs Greedy = false
needs Any = false
needs (Many c n) = nat_eq n 1
needs (Spliced c n) = nat_eq n 1
needs r = true

module _ (S : State → Type 0) (due : Sort) (least : ℕ) (element : Reader Found) where
  abbrev Held_on : {A : Type 0} → A → State → Type 0
  Held_on x t = S t

  abbrev next : Repetition → Tokens
  next r = after_them due least r

  -- none, where none begins
  fin_no_number : (b : Bool) (r : Repetition) → b ≡ false → ((z : State) (x : Shape) → next r x ≡ true → has (element_starts r due) (class z x) ≡ false) → (i : ℕ) (z : State) → S z → Finishes body z (next r) Held_on (any_number b r due element i) (by_least b (phrase due))
  fin_no_number true r l clear i z k = absurd (cc l)
  fin_no_number false r l clear i z k = fin_look_past body z (next r) Held_on (λ x. choose (has (element_starts r due) x.class) (many r due element i) (Give (none_at i)))
      (λ x q. fin_choose body z (next r) Held_on (has (element_starts r due) (class z x)) (many r due element i) (Give (none_at i)) [] (λ e. contrary (has (element_starts r due) (class z x)) e (clear z x q)) (λ _. fin_give body z (next r) Held_on (none_at i) k))

  fin_none_by : (r : Repetition) (before : Before) → needs r ≡ false → (i : ℕ) (z : State) → S z → Finishes body z (next r) Held_on (gathered_by r due element before i) (group_phrase r due)
  fin_none_by Optional before l i z k = fin_at_most S (next Optional) element z (starts due) i (none due least Optional z) k
  fin_none_by Greedy before l i z k = fin_at_most S (next Greedy) element z (starts due) i (none due least Greedy z) k
  fin_none_by Any before l i z k = fin_no_number false Any refl (none due least Any) i z k
  fin_none_by (Many c n) before l i z k = fin_no_number (nat_eq n 1) (Many c n) l (none due least (Many c n)) i z k
  fin_none_by (Spliced c n) before l i z k = fin_no_number (nat_eq n 1) (Spliced c n) l (none due least (Spliced c n)) i z k
  fin_none_by _ before l i z k = absurd (cc l)

module _ (S : State → Type 0) (due : Sort) (least : ℕ) (element : Reader Found) (firm : takes due ≡ true → Firm element)
    (ends : (z : State) → S z → Finishes body z (none_of (past due least)) (λ _ t. S t) element (phrase due)) where
  abbrev Held : {A : Type 0} → A → State → Type 0
  Held x t = S t

  abbrev there : Repetition → Tokens
  there r = after_them due least r

  ends_there : (r : Repetition) (z : State) → S z → Finishes body z (there r) Held element (phrase due)
  ends_there r z k = fin_fewer body z (none_of (past due least)) (there r) Held Held element (phrase due) (fewer due least r) (λ x t k. k) (ends z k)

  fin_loop : (r : Repetition) → Bounded body (turn_while (goes r due) (λ _ g. by r due element g)) → (i : ℕ) (z : State) → S z → Finishes body z (there r) Held (Bind (element_after element (none_at i)) (λ g. others r due element g)) (phrase due)
  fin_loop r B i z k = fin_some S (there r) element (phrase due) (ends_there r) r due B (over due least r) z i k

  -- no more than the first
  pub fin_more : (r : Repetition) → Bounded body (turn_while (goes r due) (λ _ g. by r due element g)) → (g : Gathered) (z : State) → S z → Finishes body z (there r) Held (others r due element g) []
  fin_more r B g z k = fin_others S (there r) element (phrase due) (ends_there r) r due B (over due least r) z g k

  fin_many : (r : Repetition) → is_loop r ≡ true → sound r due ≡ true → (i : ℕ) (z : State) → S z → Finishes body z (there r) Held (many r due element i) (phrase due)
  unfolding many
  fin_many All l h i z k = fin_loop All (bounded_group All due element refl h firm) i z k
  fin_many Any l h i z k = fin_loop Any (bounded_group Any due element refl h firm) i z k
  fin_many (Many c n) l h i z k = fin_loop (Many c n) (bounded_group (Many c n) due element refl h firm) i z k
  fin_many (Spliced c n) l h i z k = fin_loop (Spliced c n) (bounded_group (Spliced c n) due element refl h firm) i z k
  fin_many _ l h i z k = absurd (cc l)

  -- one, where one begins
  fin_one : (r : Repetition) (i : ℕ) (z : State) → S z → (u : List Shape) → opens_as (starts due) u ≡ true → Finishes body z (there r) Held (element_after element (none_at i)) u → Finishes body z (there r) Held (at_most_one element (starts due) i) u
  fin_one r i z k [] o F = absurd (cc o)
  fin_one r i z k (x ∷ u) o F = fin_look body z (there r) Held (λ x. choose (has (starts due) x.class) (element_after element (none_at i)) (Give (none_at i))) x u
      (λ n. fin_choose body z (there r) Held (has (starts due) (written x)) (element_after element (none_at i)) (Give (none_at i)) (x ∷ u) (λ _. F) (λ e. contrary (has (starts due) (written x)) o e))

  fin_number : (b : Bool) (r : Repetition) → is_loop r ≡ true → b ≡ true → sound r due ≡ true → (i : ℕ) (z : State) → S z → Finishes body z (there r) Held (any_number b r due element i) (by_least b (phrase due))
  fin_number true r l m h i z k = fin_many r l h i z k
  fin_number false r l m h i z k = absurd (cc m)

  fin_by : (r : Repetition) (before : Before) → needs r ≡ true → is_plain r ≡ true → sound r due ≡ true → group_ends r due ≡ true → (i : ℕ) (z : State) → S z → Finishes body z (there r) Held (gathered_by r due element before i) (group_phrase r due)
  fin_by Due before l p h o i z k = fin_choose body z (there Due) Held (is_missing before) (element_after element (none_at i)) (at_most_one element (starts due) i) (phrase due)
      (λ _. fin_element S (there Due) element (phrase due) (ends_there Due) z (none_at i) k) (λ _. fin_one Due i z k (phrase due) o (fin_element S (there Due) element (phrase due) (ends_there Due) z (none_at i) k))
  fin_by All before l p h o i z k = fin_many All refl h i z k
  fin_by (Many c n) before l p h o i z k = fin_number (nat_eq n 1) (Many c n) refl l h i z k
  fin_by (Spliced c n) before l p h o i z k = fin_number (nat_eq n 1) (Spliced c n) refl l h i z k
  fin_by (Ended c d) before l p h o i z k = absurd (cc p)
  fin_by _ before l p h o i z k = absurd (cc l)

  -- ---- and each prefix of it

  module _ (calls : Calls) (deep : ℕ)
      (live : (z : State) (y : Shape) → S z → Live body calls deep z y (none_of (past due least)) (λ _ t. S t) element)
      (leaves : (z : State) (y : Shape) → S z → Leaves body z y element (λ _ t. S t)) where
    live_there : (r : Repetition) (z : State) (y : Shape) → S z → Live body calls deep z y (there r) Held element
    live_there r z y k = live_fewer body calls deep z y (none_of (past due least)) (there r) Held element (fewer due least r) (live z y k)

    live_one : (r : Repetition) (i : ℕ) (z : State) (y : Shape) → S z → Live body calls deep z y (there r) Held (element_after element (none_at i))
    live_one r i z y k = live_element calls deep S (there r) element (phrase due) (live_there r) (ends_there r) leaves z y (none_at i) k

    live_loop : (r : Repetition) → Bounded body (turn_while (goes r due) (λ _ g. by r due element g)) → (i : ℕ) (z : State) (y : Shape) → S z → Live body calls deep z y (there r) Held (Bind (element_after element (none_at i)) (λ g. others r due element g))
    live_loop r B i z y k = live_some calls deep S (there r) element (phrase due) (live_there r) (ends_there r) leaves r due B (over due least r) z y i k

    -- after the first
    pub live_more : (r : Repetition) → Bounded body (turn_while (goes r due) (λ _ g. by r due element g)) → (g : Gathered) (z : State) (y : Shape) → S z → Live body calls deep z y (there r) Held (others r due element g)
    live_more r B g z y k = live_others calls deep S (there r) element (phrase due) (live_there r) (ends_there r) leaves r due B (over due least r) z y g k

    live_many : (r : Repetition) → is_loop r ≡ true → sound r due ≡ true → (i : ℕ) (z : State) (y : Shape) → S z → Live body calls deep z y (there r) Held (many r due element i)
    unfolding many
    live_many All l h i z y k = live_loop All (bounded_group All due element refl h firm) i z y k
    live_many Any l h i z y k = live_loop Any (bounded_group Any due element refl h firm) i z y k
    live_many (Many c n) l h i z y k = live_loop (Many c n) (bounded_group (Many c n) due element refl h firm) i z y k
    live_many (Spliced c n) l h i z y k = live_loop (Spliced c n) (bounded_group (Spliced c n) due element refl h firm) i z y k
    live_many _ l h i z y k = absurd (cc l)

    live_number : (b : Bool) (r : Repetition) → is_loop r ≡ true → sound r due ≡ true → (i : ℕ) (z : State) (y : Shape) → S z → Live body calls deep z y (there r) Held (any_number b r due element i)
    live_number true r l h i z y k = live_many r l h i z y k
    live_number false r l h i z y k = live_choose body calls deep z y (there r) Held (has (element_starts r due) (class z y)) (many r due element i) (Give (none_at i)) (λ _. live_many r l h i z y k) (λ _. tt)

    live_most : (r : Repetition) (i : ℕ) (z : State) (y : Shape) → S z → Live body calls deep z y (there r) Held (at_most_one element (starts due) i)
    live_most r i z y k = live_at_most calls deep S (there r) element (phrase due) (live_there r) (ends_there r) leaves z y (starts due) i k

    live_by : (r : Repetition) (before : Before) → is_plain r ≡ true → sound r due ≡ true → (i : ℕ) (z : State) (y : Shape) → S z → Live body calls deep z y (there r) Held (gathered_by r due element before i)
    live_by Optional before p h i z y k = live_most Optional i z y k
    live_by Greedy before p h i z y k = live_most Greedy i z y k
    live_by Due before p h i z y k = live_choose body calls deep z y (there Due) Held (is_missing before) (element_after element (none_at i)) (at_most_one element (starts due) i) (λ _. live_one Due i z y k) (λ _. live_most Due i z y k)
    live_by All before p h i z y k = live_many All refl h i z y k
    live_by Any before p h i z y k = live_number false Any refl h i z y k
    live_by (Many c n) before p h i z y k = live_number (nat_eq n 1) (Many c n) refl h i z y k
    live_by (Spliced c n) before p h i z y k = live_number (nat_eq n 1) (Spliced c n) refl h i z y k
    live_by (Ended c d) before p h i z y k = absurd (cc p)

    pub live_gathered : (r : Repetition) (before : Before) → is_plain r ≡ true → sound r due ≡ true → (z : State) (y : Shape) → S z → Live body calls deep z y (there r) Held (gathered r due element before)
    unfolding gathered
    live_gathered r before p h z y k = λ place. live_map body calls deep z y Held (there r) (there r) Held (gathered_by r due element before place) (λ g. (place, g)) (λ x q. q) (λ g t k. k) (live_by r before p h place z y k)

-- by its phrase, for which an element may be needed
pub fin_gathered : (S : State → Type 0) (due : Sort) (least : ℕ) (element : Reader Found) → (takes due ≡ true → Firm element) → (r : Repetition) (before : Before) → (needs r ≡ true → (z : State) → S z → Finishes body z (none_of (past due least)) (λ _ t. S t) element (phrase due))
    → is_plain r ≡ true → sound r due ≡ true → group_ends r due ≡ true → (z : State) → S z → Finishes body z (none_of (group_past r due least)) (λ _ t. S t) (gathered r due element before) (group_phrase r due)
unfolding gathered
fin_gathered S due least element firm r before ends p h o z k = fin_ask body z (after_them due least r) (λ _ t. S t) (λ i. Bind (gathered_by r due element before i.place) (λ g. Give (i.place, g))) (group_phrase r due)
    (λ place. fin_map body z (λ _ t. S t) (after_them due least r) (λ _ t. S t) (gathered_by r due element before place) (λ g. (place, g)) (group_phrase r due) (by_need (needs r) refl place) (λ g t k. k))
  where
    by_need : (b : Bool) → needs r ≡ b → (place : ℕ) → Finishes body z (after_them due least r) (λ _ t. S t) (gathered_by r due element before place) (group_phrase r due)
    by_need true e place = fin_by S due least element firm (ends e) r before e p h o place z k
    by_need false e place = fin_none_by S due least element r before e place z k

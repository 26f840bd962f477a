-- Groups can be completed: after a separator by an element, and after an element by nothing more.
use Rattle.std.proofs.Common.{◌≡◌, sym, ◌∙◌, ℕ, true, false, List, [], Option, Some, None}
use Rattle.c_tokens.specs.declared.token.Shape.{Shape}
use Rattle.c_tokens.specs.declared.class.Class.{Class}
use Rattle.c_forms.specs.declared.pieces.Sort.{Sort}
use Rattle.c_forms.specs.declared.pieces.Repetition.{Repetition}
use Rattle.c_forms.specs.Sets.{Classes, has, element_starts, goes_on_with}
use Rattle.c_reader.specs.States.{State, class}
use Rattle.c_reader.specs.Readers.{Reader, Found, Give, Bind, Ask, below, choose, turn_while}
use Rattle.c_reader.proofs.Bounds.{Bounded}
use Rattle.c_reader.proofs.Leaves.{Leaves, anyhow, leaves_anyhow, leaving_bind, leaving_ask, leaving_give, leaving_next}
use Rattle.c_reader.proofs.Phrases.{Tokens, Finishes, fin_give, fin_ask, fin_last, fin_over, fin_look_past, fin_choose}
use Rattle.c_reader.proofs.Live.{Calls, Live, live_bind, live_choose, live_next, live_repeat}
use Rattle.c_syntax.specs.Reading.{Gathered, none_at, with_last, separated, separator_of, goes, element_after, others, at_most_one}
use Rattle.c_syntax.specs.Grammar.{body}

-- no element, where none begins
pub fin_at_most : (S : State → Type 0) (Q : Tokens) (element : Reader Found) (z : State) (begin : Classes) (i : ℕ) → ((x : Shape) → Q x ≡ true → has begin (class z x) ≡ false) → S z → Finishes body z Q (λ _ t. S t) (at_most_one element begin i) []
fin_at_most S Q element z begin i none k = fin_look_past body z Q (λ _ t. S t) (λ x. choose (has begin x.class) (element_after element (none_at i)) (Give (none_at i)))
    (λ x q. fin_choose body z Q (λ _ t. S t) (has begin (class z x)) (element_after element (none_at i)) (Give (none_at i)) [] (λ e. absurd (let f : true ≡ false = sym e ∙ none x q in cc f)) (λ e. fin_give body z Q (λ _ t. S t) (none_at i) k))

-- An element that its phrase completes where a token of Q follows.
module _ (S : State → Type 0) (Q : Tokens) (element : Reader Found) (u : List Shape) (ends : (z : State) → S z → Finishes body z Q (λ _ t. S t) element u) where
  abbrev Held : {A : Type 0} → A → State → Type 0
  Held x t = S t

  after : Gathered → Found → Reader Gathered
  after g x = Ask (λ j. Give (with_last g x j.place))

  fin_after : (z : State) (g : Gathered) (x : Found) → S z → Finishes body z Q Held (after g x) []
  unfolding after
  fin_after z g x k = fin_ask body z Q Held (λ j. Give (with_last g x j.place)) [] (λ place. fin_give body z Q Held (with_last g x place) k)

  pub fin_element : (z : State) (g : Gathered) → S z → Finishes body z Q Held (element_after element g) u
  unfolding element_after after
  fin_element z g k = fin_last body z Held Q Q Held element (after g) u (ends z k) (λ x q. q) (λ x t k. fin_after t g x k)

  module _ (r : Repetition) (due : Sort) (B : Bounded body (turn_while (goes r due) (λ _ g. separated (separator_of r) (element_after element g)))) (over : (z : State) (x : Shape) → Q x ≡ true → has (goes_on_with r (element_starts r due)) (class z x) ≡ false) where
    pub fin_others : (z : State) (g : Gathered) → S z → Finishes body z Q Held (others r due element g) []
    unfolding others
    fin_others z g k = fin_over body z Q Held (goes r due) (λ _ g. separated (separator_of r) (element_after element g)) B g (λ x q. over z x q) k

    -- one element, and no others
    pub fin_some : (z : State) (i : ℕ) → S z → Finishes body z Q Held (Bind (element_after element (none_at i)) (λ g. others r due element g)) u
    fin_some z i k = fin_last body z Held Q Q Held (element_after element (none_at i)) (λ g. others r due element g) u (fin_element z (none_at i) k) (λ x q. q) (λ g t k. fin_others t g k)

-- And each of whose prefixes can be completed.
module _ (calls : Calls) (deep : ℕ) (S : State → Type 0) (Q : Tokens) (element : Reader Found) (u : List Shape)
    (live : (z : State) (x : Shape) → S z → Live body calls deep z x Q (λ _ t. S t) element)
    (ends : (z : State) → S z → Finishes body z Q (λ _ t. S t) element u)
    (leaves : (z : State) (x : Shape) → S z → Leaves body z x element (λ _ t. S t)) where
  abbrev Keeps : {A : Type 0} → A → State → Type 0
  Keeps x t = S t

  pub live_element : (z : State) (y : Shape) (g : Gathered) → S z → Live body calls deep z y Q Keeps (element_after element g)
  unfolding element_after after
  live_element z y g k = live_bind body calls deep z y anyhow Keeps Q Q Keeps element (after S Q element u ends g) (live z y k) (leaves_anyhow body z y element) (record { tokens = []; opens = λ x q. q; finishes = λ x t k. fin_after S Q element u ends t g x k }) (λ x t y _ place. tt)

  leaves_element : (z : State) (y : Shape) (g : Gathered) → S z → Leaves body z y (element_after element g) Keeps
  unfolding element_after
  leaves_element z y g k d = leaving_bind (below body d) d z y element (λ x. Ask (λ j. Give (with_last g x j.place))) Keeps Keeps (leaves z y k d)
      (λ x t y k. leaving_ask (below body d) d t y (λ j. Give (with_last g x j.place)) Keeps (λ place. leaving_give (below body d) d t y (with_last g x place) Keeps k))

  live_separated : (o : Option Class) (z : State) (y : Shape) (g : Gathered) → S z → Live body calls deep z y Q Keeps (separated o (element_after element g))
  live_separated None z y g k = live_element z y g k
  live_separated (Some c) z y g k = live_next body calls deep z y Q Keeps (element_after element g) u (fin_element S Q element u ends z g k) (λ x. live_element z x g k)

  leaves_separated : (o : Option Class) (z : State) (y : Shape) (g : Gathered) → S z → Leaves body z y (separated o (element_after element g)) Keeps
  leaves_separated None z y g k d = leaves_element z y g k d
  leaves_separated (Some c) z y g k d = leaving_next (below body d) d z y (element_after element g) Keeps (λ x. leaves_element z x g k d)

  module _ (r : Repetition) (due : Sort) (B : Bounded body (turn_while (goes r due) (λ _ g. separated (separator_of r) (element_after element g)))) (over : (z : State) (x : Shape) → Q x ≡ true → has (goes_on_with r (element_starts r due)) (class z x) ≡ false) where
    pub live_others : (z : State) (y : Shape) (g : Gathered) → S z → Live body calls deep z y Q Keeps (others r due element g)
    unfolding others
    live_others z y g k = live_repeat body calls deep z y Q Keeps (goes r due) (λ _ g. separated (separator_of r) (element_after element g)) B g Keeps Keeps k (λ g z x k q. over z x q) (λ g z k. k)
        (λ g z x k e. live_separated (separator_of r) z x g k) (λ g z x k e. leaves_separated (separator_of r) z x g k)

    -- one element, and others
    pub live_some : (z : State) (y : Shape) (i : ℕ) → S z → Live body calls deep z y Q Keeps (Bind (element_after element (none_at i)) (λ g. others r due element g))
    live_some z y i k = live_bind body calls deep z y Keeps Keeps Q Q Keeps (element_after element (none_at i)) (λ g. others r due element g) (live_element z y (none_at i) k) (leaves_element z y (none_at i) k)
        (record { tokens = []; opens = λ x q. q; finishes = λ g t k. fin_others S Q element u ends r due B over t g k }) (λ g t x k. live_others t x g k)

  -- one element, or none where none begins
  pub live_at_most : (z : State) (y : Shape) (begin : Classes) (i : ℕ) → S z → Live body calls deep z y Q Keeps (at_most_one element begin i)
  live_at_most z y begin i k = live_choose body calls deep z y Q Keeps (has begin (class z y)) (element_after element (none_at i)) (Give (none_at i)) (λ e. live_element z y (none_at i) k) (λ e. tt)

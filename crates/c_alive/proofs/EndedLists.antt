-- A repetition that may end after a separator can be completed: by an element, so that it has not ended.
use Rattle.std.proofs.Common.{◌≡◌, refl, not, Bool, true, false, ℕ, List, [], ◌∷◌}
use Rattle.c_tokens.specs.declared.token.Shape.{Shape}
use Rattle.c_tokens.specs.declared.class.Class.{Class}
use Rattle.c_forms.specs.declared.pieces.Sort.{Sort}
use Rattle.c_forms.specs.declared.pieces.Repetition.TheVariants.{Ended}
use Rattle.c_tokens.specs.ClassNumbers.{class_number}
use Rattle.c_forms.specs.Sets.{has}
use Rattle.c_reader.specs.States.{State, Seen, Kept, seen, class}
use Rattle.c_reader.specs.Readers.{Reader, Turn, More, Last, Found, Give, Look, Next, Bind, Ask, below, choose}
use Rattle.c_reader.proofs.Sets.{contrary, not_true, same_class, single}
use Rattle.c_reader.proofs.Seen.{written}
use Rattle.c_reader.proofs.Bounds.{Bounded}
use Rattle.c_reader.proofs.Advance.{the_end}
use Rattle.c_reader.proofs.Leaves.{Leaves, Turned, anyhow, leaves_anyhow, leaving_bind, leaving_give, leaving_next, leaving_look, leaving_choose}
use Rattle.c_reader.proofs.Phrases.{Tokens, Finishes, fin_give, fin_ask, fin_last, fin_look, fin_look_past, fin_choose, fin_fewer, fin_map, fin_turn}
use Rattle.c_reader.proofs.Live.{Calls, Live, live_bind, live_choose, live_map, live_next}
use Rattle.c_syntax.specs.Reading.{Before, Gathered, none_at, with_last, ended, is_class, element_after, ended_turn, others_ended, many, gathered}
use Rattle.c_syntax.specs.Grammar.{body}
use Rattle.c_alive.proofs.Tame.{bounded_ended}
use Rattle.c_alive.proofs.Kept.{Still, stays_element}
use Rattle.c_alive.proofs.Phrased.{none_of, past, phrase, live_fewer}
use Rattle.c_alive.proofs.Gathers.{after_them, fewer, over, opens_not}

-- whether the loop over such a repetition ends
abbrev pub stops : Class → Bool
stops separator = not (is_class separator the_end)

module _ (a : List Kept) (due : Sort) (least : ℕ) (element : Reader Found) (separator end_token : Class) (stop : stops separator ≡ true)
    (ends : (z : State) → Still a z → Finishes body z (none_of (past due least)) (λ _ t. Still a t) element (phrase due))
    (opening : opens_not end_token (phrase due) ≡ true) where
  abbrev Held : {A : Type 0} → A → State → Type 0
  Held x t = Still a t

  abbrev pub Unended : Gathered → State → Type 0
  Unended g t = Still a t × (g.is_ended ≡ false)

  abbrev there : Tokens
  there = after_them due least (Ended separator end_token)

  abbrev after : Gathered → Found → Reader Gathered
  after g x = Ask (λ j. Give (with_last g x j.place))

  fin_after : (z : State) (g : Gathered) (x : Found) → Still a z → Finishes body z there Unended (after g x) []
  fin_after z g x k = fin_ask body z there Unended (λ j. Give (with_last g x j.place)) [] (λ place. fin_give body z there Unended (with_last g x place) (k, refl))

  fin_element : (z : State) (g : Gathered) → Still a z → Finishes body z there Unended (element_after element g) (phrase due)
  unfolding element_after
  fin_element z g k = fin_last body z Held there there Unended element (after g) (phrase due) (fin_fewer body z (none_of (past due least)) there Held Held element (phrase due) (fewer due least (Ended separator end_token)) (λ x t k. k) (ends z k))
      (λ x q. q) (λ x t k. fin_after t g x k)

  abbrev Turns : Turn Gathered Gathered → State → Type 0
  Turns = Turned Unended Unended

  abbrev by_end : Gathered → Seen → Reader (Turn Gathered Gathered)
  by_end g y = choose (is_class end_token y) (Give (Last (ended g))) (Bind (element_after element g) (λ h. Give (More h)))

  abbrev by_separator : Gathered → Seen → Reader (Turn Gathered Gathered)
  by_separator g x = choose (is_class separator x) (Next (Look (by_end g))) (Give (Last g))

  fin_next_one : (z : State) (g : Gathered) → Still a z → (u : List Shape) → opens_not end_token u ≡ true → Finishes body z there Unended (element_after element g) u → Finishes body z there Turns (Look (by_end g)) u
  fin_next_one z g k [] o F = absurd (cc o)
  fin_next_one z g k (x ∷ u) o F = fin_look body z there Turns (by_end g) x u
      (λ n. fin_choose body z there Turns (is_class end_token (record { shape = x; class = written x })) (Give (Last (ended g))) (Bind (element_after element g) (λ h. Give (More h))) (x ∷ u)
      (λ e. contrary (is_class end_token (record { shape = x; class = written x })) e (not_true (is_class end_token (record { shape = x; class = written x })) o))
      (λ _. fin_map body z Unended there Turns (element_after element g) More (x ∷ u) F (λ g t k. k)))

  fin_separated : (z : State) (g : Gathered) → Still a z → Finishes body z there Turns (Look (by_end g)) (phrase due)
  fin_separated z g k = fin_next_one z g k (phrase due) opening (fin_element z g k)

  bound : Bounded body (ended_turn separator end_token element)
  bound = bounded_ended separator end_token element (not_true (is_class separator the_end) stop)

  -- no separator
  fin_over : (K : Gathered → State → Type 0) (z : State) (g : Gathered) → Unended g z → Finishes body z there (Turned {A = Gathered} {S = Gathered} K Unended) (Look (by_separator g)) []
  fin_over K z g k = fin_look_past body z there (Turned {A = Gathered} {S = Gathered} K Unended) (by_separator g) (λ x q. fin_choose body z there (Turned {A = Gathered} {S = Gathered} K Unended) (is_class separator (seen z x)) (Next (Look (by_end g))) (Give (Last g)) []
      (λ e. contrary (has (class_number separator ∷ []) (class z x)) (single (class_number separator) (class z x) (same_class (class z x) (class_number separator) e)) (over due least (Ended separator end_token) z x q))
      (λ _. fin_give body z there (Turned {A = Gathered} {S = Gathered} K Unended) (Last g) k))

  abbrev never : Gathered → State → Type 0
  never g t = ⊥

  fin_others : (z : State) (g : Gathered) → Unended g z → Finishes body z there Unended (others_ended separator end_token element g) []
  unfolding others_ended
  fin_others z g k = fin_turn body z never there Unended (ended_turn separator end_token element) bound g [] (λ g t bad. absurd bad) (fin_over never z g k)

  fin_many : (i : ℕ) (z : State) → Still a z → Finishes body z there Unended (many (Ended separator end_token) due element i) (phrase due)
  unfolding many
  fin_many i z k = fin_last body z Unended there there Unended (element_after element (none_at i)) (λ g. others_ended separator end_token element g) (phrase due) (fin_element z (none_at i) k) (λ x q. q) (λ g t k. fin_others t g k)

  pub fin_listed : (before : Before) (z : State) → Still a z → Finishes body z there (λ x t. Unended x.1 t) (gathered (Ended separator end_token) due element before) (phrase due)
  unfolding gathered
  fin_listed before z k = fin_ask body z there (λ x t. Unended x.1 t) (λ i. Bind (many (Ended separator end_token) due element i.place) (λ g. Give (i.place, g))) (phrase due)
      (λ place. fin_map body z Unended there (λ x t. Unended x.1 t) (many (Ended separator end_token) due element place) (λ g. (place, g)) (phrase due) (fin_many place z k) (λ g t k. k))

  module _ (calls : Calls) (deep : ℕ)
      (live : (z : State) (y : Shape) → Still a z → Live body calls deep z y (none_of (past due least)) (λ _ t. Still a t) element)
      (leaves : (a : List Kept) (z : State) (y : Shape) → Still a z → Leaves body z y element (λ _ t. Still a t)) where
    live_element : (z : State) (y : Shape) (g : Gathered) → Still a z → Live body calls deep z y there Unended (element_after element g)
    unfolding element_after
    live_element z y g k = live_bind body calls deep z y anyhow Held there there Unended element (after g) (live_fewer body calls deep z y (none_of (past due least)) there Held element (fewer due least (Ended separator end_token)) (live z y k))
        (leaves_anyhow body z y element) (record { tokens = []; opens = λ x q. q; finishes = λ x t k. fin_after t g x k }) (λ x t y _ place. tt)

    leaves_element : (z : State) (y : Shape) (g : Gathered) → Still a z → Leaves body z y (element_after element g) Held
    leaves_element z y g k d = stays_element (below body d) d Still element g (λ a z y k. leaves a z y k d) a z y k

    live_turn : (g : Gathered) (z : State) (x : Shape) → Still a z → Live body calls deep z x there Turns (ended_turn separator end_token element g)
    live_turn g z x k = live_choose body calls deep z x there Turns (is_class separator (seen z x)) (Next (Look (by_end g))) (Give (Last g))
        (λ _. live_next body calls deep z x there Turns (Look (by_end g)) (phrase due) (fin_separated z g k)
        (λ y. live_choose body calls deep z y there Turns (is_class end_token (seen z y)) (Give (Last (ended g))) (Bind (element_after element g) (λ h. Give (More h))) (λ _. tt)
        (λ _. live_map body calls deep z y Unended there there Turns (element_after element g) More (λ x q. q) (λ h t k. k) (live_element z y g k))))
        (λ _. tt)

    abbrev Going : Turn Gathered Gathered → State → Type 0
    Going = Turned Held anyhow

    leaves_turn : (g : Gathered) (z : State) (x : Shape) → Still a z → Leaves body z x (ended_turn separator end_token element g) Going
    leaves_turn g z x k d = leaving_look (below body d) d z x (by_separator g) Going (leaving_choose (below body d) d z x (is_class separator (seen z x)) (Next (Look (by_end g))) (Give (Last g)) Going
        (λ _. leaving_next (below body d) d z x (Look (by_end g)) Going (λ y. leaving_look (below body d) d z y (by_end g) Going
        (leaving_choose (below body d) d z y (is_class end_token (seen z y)) (Give (Last (ended g))) (Bind (element_after element g) (λ h. Give (More h))) Going (λ _. leaving_give (below body d) d z y (Last (ended g)) Going tt)
        (λ _. leaving_bind (below body d) d z y (element_after element g) (λ h. Give (More h)) Held Going (leaves_element z y g k d) (λ h t w m. leaving_give (below body d) d t w (More h) Going m)))))
        (λ _. leaving_give (below body d) d z x (Last g) Going tt))

    live_others : (g : Gathered) (z : State) (x : Shape) → Still a z → Live body calls deep z x there Unended (others_ended separator end_token element g)
    unfolding others_ended
    live_others g z x k = (Held, (Unended, (k, ((λ g z x k. live_turn g z x k), ((λ g z x k. leaves_turn g z x k), (λ g z k. fin_others z g k))))))

    live_many : (i : ℕ) (z : State) (y : Shape) → Still a z → Live body calls deep z y there Unended (many (Ended separator end_token) due element i)
    unfolding many
    live_many i z y k = live_bind body calls deep z y Held Unended there there Unended (element_after element (none_at i)) (λ g. others_ended separator end_token element g) (live_element z y (none_at i) k) (leaves_element z y (none_at i) k)
        (record { tokens = []; opens = λ x q. q; finishes = λ g t k. fin_others t g k }) (λ g t x k. live_others g t x k)

    pub live_listed : (before : Before) (z : State) (y : Shape) → Still a z → Live body calls deep z y there (λ x t. Unended x.1 t) (gathered (Ended separator end_token) due element before)
    unfolding gathered
    live_listed before z y k = λ place. live_map body calls deep z y Unended there there (λ x t. Unended x.1 t) (many (Ended separator end_token) due element place) (λ g. (place, g)) (λ x q. q) (λ g t k. k) (live_many place z y k)

-- Words that name something, and string literals, can be completed: they are one token.
use Rattle.std.proofs.Common.{refl, ℕ, ◌+◌, suc, false, List, [], ◌∷◌}
use Rattle.c_tokens.specs.declared.token.Shape.{Shape}
use Rattle.c_forms.specs.declared.pieces.Event.TheVariants as event
use Rattle.c_forms.specs.declared.pieces.Sort.TheVariants as s
use Rattle.c_forms.specs.declared.forms.Form.TheVariants as form
use Rattle.c_reader.specs.States.{State, Kept, happens}
use Rattle.c_reader.specs.Readers.{Give, Note, Change}
use Rattle.c_reader.proofs.Leaves.{anyhow, leaves_anyhow}
use Rattle.c_reader.proofs.Phrases.{Tokens, Finishes, fin_give, fin_ask, fin_note, fin_change}
use Rattle.c_reader.proofs.Live.{Live, live_bind}
use Rattle.c_syntax.specs.Reading.{nothing, node}
use Rattle.c_syntax.specs.Grammar.{body, in_place, leaf_if, is_value, is_word, declared_identifier, enumerator_identifier}
use Rattle.c_alive.proofs.Kept.{Still, event_within}
use Rattle.c_alive.proofs.Phrased.{a_word}
use Rattle.c_alive.proofs.Called.{calls}

module _ (a : List Kept) (Q : Tokens) where
  abbrev Held : {A : Type 0} → A → State → Type 0
  Held x t = Still a t

  pub fin_declared : (z : State) → Still a z → Finishes body z Q Held declared_identifier (a_word ∷ [])
  fin_declared z k = fin_ask body z Q Held (λ i. Note (λ x. leaf_if (is_value x) form.Id i.place x)) (a_word ∷ []) (λ place. fin_note body z Q Held (λ x. leaf_if (is_value x) form.Id place x) a_word
      (λ n. node (form.Id (record { 0 = n })) place (place + 1) nothing) (λ n. refl) (λ n y. k))

  pub fin_enumerator : (z : State) → Still a z → Finishes body z Q Held enumerator_identifier (a_word ∷ [])
  fin_enumerator z k = fin_ask body z Q Held (λ i. Note (λ x. leaf_if (is_word x) form.Id i.place x)) (a_word ∷ []) (λ place. fin_note body z Q Held (λ x. leaf_if (is_word x) form.Id place x) a_word
      (λ n. node (form.Id (record { 0 = n })) place (place + 1) nothing) (λ n. refl) (λ n y. k))

  module _ (n least deep : ℕ) where
    pub live_id : (z : State) (y : Shape) → Still a z → Live body calls deep z y Q Held (in_place (suc n) s.Id least)
    unfolding in_place
    live_id z y k = λ place. ((λ x e. k), tt)

    pub live_literal : (z : State) (y : Shape) → Still a z → Live body calls deep z y Q Held (in_place (suc n) s.Literal least)
    unfolding in_place
    live_literal z y k = λ place. ((λ x e. k), tt)

    pub live_declared : (z : State) (y : Shape) → Still a z → Live body calls deep z y Q Held (in_place (suc n) s.DeclaredId least)
    unfolding in_place
    live_declared z y k = λ place. ((λ x e. k), tt)

    pub live_enumerator : (z : State) (y : Shape) → Still a z → Live body calls deep z y Q Held (in_place (suc n) s.EnumeratorId least)
    unfolding in_place
    live_enumerator z y k = λ place. ((λ x e. k), tt)

    pub live_parameter : (z : State) (y : Shape) → Still a z → Live body calls deep z y Q Held (in_place (suc n) s.ParameterId least)
    unfolding in_place
    live_parameter z y k = live_bind body calls deep z y anyhow Held Q Q Held declared_identifier (λ x. Change event.DeclareValue (Give x)) (λ place. ((λ x e. k), tt)) (leaves_anyhow body z y declared_identifier)
        (record { tokens = []; opens = λ x q. q; finishes = λ x t k. fin_change body t Q Held event.DeclareValue (Give x) [] (fin_give body (happens event.DeclareValue t) Q Held x (event_within event.DeclareValue false a t refl k)) }) (λ x t y _. tt)

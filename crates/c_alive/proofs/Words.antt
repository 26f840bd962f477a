-- A word completes an expression.
use Rattle.std.proofs.Common.{◌≡◌, refl, ℕ, false, nat_lt, List, [], ◌∷◌}
use Rattle.c_tokens.specs.declared.token.Shape.TheVariants as shape
use Rattle.c_tokens.specs.declared.token.Shape.{Shape}
use Rattle.c_forms.specs.declared.pieces.Sort.TheVariants as s
use Rattle.c_forms.specs.declared.forms.Form.{Form}
use Rattle.c_forms.specs.declared.forms.Form.TheVariants as form
use Rattle.c_forms.specs.declared.forms.ExpForm.TheVariants as exp
use Rattle.c_forms.specs.Measures.{pieces}
use Rattle.c_forms.specs.Sets.{has, goes_on, held_class}
use Rattle.c_reader.specs.States.{State, Kept}
use Rattle.c_reader.specs.Tokens.{Spot, spot}
use Rattle.c_reader.specs.Readers.{Reader, Found, Give, Refuse, Pick, Bind, Ask, only}
use Rattle.c_reader.proofs.Sets.{contrary}
use Rattle.c_reader.proofs.Phrases.{Tokens, Finishes, fin_give, fin_ask, fin_look, fin_pick, fin_choose, fin_map, fin_last}
use Rattle.c_syntax.specs.Reading.{Usual, Parts, Listed, nothing, node, joined, pieces_in, completed}
use Rattle.c_syntax.specs.Grammar.{body, whole, standing, tight, primary, climb, expression}
use Rattle.c_alive.proofs.Kept.{Still}
use Rattle.c_alive.proofs.Phrased.{none_of}
use Rattle.c_alive.proofs.Tails.{exp_over}
use Rattle.c_alive.proofs.Climbs.{fin_climb}

abbrev a_word : Shape
a_word = shape.Word (record { 0 = 0 })

abbrev name : ℕ → Form
name n = form.Exp (exp.Name (record { 0 = n }))

module _ (inner : Parts) (a : List Kept) (z : State) (k : Still a z) (Q : Tokens) where
  abbrev Held : {A : Type 0} → A → State → Type 0
  Held x t = Still a t

  fin_own : (n : ℕ) → Finishes body z Q Held (pieces_in inner s.Exp (name n) Usual (pieces (name n))) (a_word ∷ [])
  unfolding pieces_in
  fin_own n = fin_last body z Held Q Q Held (Pick (λ x. only (has (held_class (name n)) x.class))) (λ _. Give nothing) (a_word ∷ []) (fin_pick body z Q Held (λ x. only (has (held_class (name n)) x.class)) a_word (λ m. tt) (λ m. refl) (λ m. k)) (λ x q. q) (λ b t k. fin_give body t Q Held nothing k)

  fin_name : (n : ℕ) → Finishes body z Q Held (whole inner s.Exp (name n)) (a_word ∷ [])
  unfolding whole completed
  fin_name n = fin_ask body z Q Held (λ i. Bind (pieces_in inner s.Exp (name n) Usual (pieces (name n))) (after i)) (a_word ∷ []) (λ place. fin_last body z Held Q Q Held (pieces_in inner s.Exp (name n) Usual (pieces (name n))) (after (spot place z)) (a_word ∷ []) (fin_own n) (λ x q. q)
      (λ g t k. fin_ask body t Q Held (λ j. Give (node (name n) place j.place (joined nothing g))) [] (λ end_place. fin_give body t Q Held (node (name n) place end_place (joined nothing g)) k)))
    where
      after : Spot → Listed → Reader Found
      after i g = Ask (λ j. Give (node (name n) i.place j.place (joined nothing g)))

  fin_tight : (least n : ℕ) → nat_lt 17 least ≡ false → Finishes body z Q Held (tight least (name n) (whole inner s.Exp (name n))) (a_word ∷ [])
  fin_tight least n low = fin_choose body z Q Held (nat_lt 17 least) Refuse (standing 17 (whole inner s.Exp (name n))) (a_word ∷ []) (λ e. absurd (contrary (nat_lt 17 least) e low))
      (λ _. fin_map body z Held Q Held (whole inner s.Exp (name n)) (λ x. record { found = x; level = 17 }) (a_word ∷ []) (fin_name n) (λ x t k. k))

  fin_primary : (least : ℕ) → nat_lt 17 least ≡ false → Finishes body z Q Held (primary inner least) (a_word ∷ [])
  unfolding primary
  fin_primary least low = fin_ask body z Q Held _ (a_word ∷ []) (λ place. fin_look body z Q Held _ a_word [] (λ n. fin_tight least n low))

-- with nothing after it that goes on
pub fin_expression : (inner : Parts) (least : ℕ) → nat_lt 17 least ≡ false → (a : List Kept) (z : State) → Still a z → Finishes body z (none_of (goes_on s.Exp least)) (λ _ t. Still a t) (expression inner least) (a_word ∷ [])
unfolding expression
fin_expression inner least low a z k = fin_ask body z (none_of (goes_on s.Exp least)) (λ _ t. Still a t) (λ i. Bind (primary inner least) (λ y. climb s.Exp least i.place y)) (a_word ∷ [])
    (λ place. fin_last body z (λ _ t. Still a t) (none_of (goes_on s.Exp least)) (none_of (goes_on s.Exp least)) (λ _ t. Still a t) (primary inner least) (λ y. climb s.Exp least place y) (a_word ∷ []) (fin_primary inner a z k (none_of (goes_on s.Exp least)) least low) (λ x q. q)
    (λ y t m. fin_climb s.Exp least place (Still a) (none_of (goes_on s.Exp least)) (λ y z x q. exp_over least z y x q) t y m))

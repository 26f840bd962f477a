-- The node that is made of the pieces of a row.
use Rattle.std.proofs.Common.{ℕ, List, []}
use Rattle.c_tokens.specs.declared.token.Shape.{Shape}
use Rattle.c_forms.specs.declared.pieces.Sort.{Sort}
use Rattle.c_forms.specs.declared.pieces.Piece.{Piece}
use Rattle.c_forms.specs.declared.forms.Form.{Form}
use Rattle.c_reader.specs.States.{State}
use Rattle.c_reader.specs.Readers.{Reader, Found, Give, Bind, Ask}
use Rattle.c_reader.proofs.Leaves.{anyhow, leaves_anyhow}
use Rattle.c_reader.proofs.Phrases.{Tokens, Finishes, Begun, Way, fin_give, fin_ask, fin_last, begun_bind}
use Rattle.c_reader.proofs.Live.{Calls, Live, live_bind}
use Rattle.c_syntax.specs.Reading.{Usual, Parts, Listed, node, joined, pieces_in, completed}
use Rattle.c_syntax.specs.Grammar.{body}

-- with nothing after the last part
pub begun_map : {A B : Type 0} (S : State → Type 0) (Q : Tokens) (z : State) (y : Shape) (r : Reader B) (f : B → A) → Begun body z y Q (λ _ t. S t) r → Begun body z y Q (λ _ t. S t) (Bind r (λ b. Give (f b)))
begun_map S Q z y r f R = begun_bind body z y (λ _ t. S t) Q Q (λ _ t. S t) r (λ b. Give (f b)) R (record { tokens = []; opens = λ x q. q; finishes = λ b t k. fin_give body t Q (λ _ t. S t) (f b) k })

module _ (S : State → Type 0) (Q : Tokens) (part : Parts) (own : Sort) (f : Form) (i : ℕ) (done : Listed) (ps : List Piece) where
  abbrev Held : {A : Type 0} → A → State → Type 0
  Held x t = S t

  abbrev closing : Listed → Reader Found
  closing g = Ask (λ j. Give (node f i j.place (joined done g)))

  fin_closing : (t : State) (g : Listed) → S t → Finishes body t Q Held (closing g) []
  fin_closing t g k = fin_ask body t Q Held (λ j. Give (node f i j.place (joined done g))) [] (λ place. fin_give body t Q Held (node f i place (joined done g)) k)

  way : Way body Held Q Q Held closing
  way = record { tokens = []; opens = λ x q. q; finishes = λ g t k. fin_closing t g k }

  pub live_completed : (calls : Calls) (deep : ℕ) (z : State) (y : Shape) → Live body calls deep z y Q Held (pieces_in part own f Usual ps) → Live body calls deep z y Q Held (completed part own f i done ps)
  unfolding completed
  live_completed calls deep z y L = live_bind body calls deep z y anyhow Held Q Q Held (pieces_in part own f Usual ps) closing L (leaves_anyhow body z y (pieces_in part own f Usual ps)) way (λ g t x _ place. tt)

  pub fin_completed : (z : State) (u : List Shape) → Finishes body z Q Held (pieces_in part own f Usual ps) u → Finishes body z Q Held (completed part own f i done ps) u
  unfolding completed
  fin_completed z u F = fin_last body z Held Q Q Held (pieces_in part own f Usual ps) closing u F (λ x q. q) (λ g t k. fin_closing t g k)

  pub begun_completed : (z : State) (y : Shape) → Begun body z y Q Held (pieces_in part own f Usual ps) → Begun body z y Q Held (completed part own f i done ps)
  unfolding completed
  begun_completed z y B = begun_bind body z y Held Q Q Held (pieces_in part own f Usual ps) closing B way

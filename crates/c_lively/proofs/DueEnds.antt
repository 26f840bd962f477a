-- What completes a declarator where a function's is due: a name and parentheses.
use Rattle.std.proofs.Common.{◌≡◌, refl, ap, ℕ, suc, ◌+◌, not, true, false, ◌&&◌, List, [], ◌∷◌, Some, nat_lt}
use Rattle.c_tokens.specs.declared.token.Punct.TheVariants as punct
use Rattle.c_tokens.specs.declared.token.Shape.{Shape}
use Rattle.c_tokens.specs.declared.token.Shape.TheVariants as shape
use Rattle.c_forms.specs.declared.pieces.Event.{Event}
use Rattle.c_forms.specs.declared.pieces.Event.TheVariants as event
use Rattle.c_forms.specs.declared.pieces.Sort.TheVariants as s
use Rattle.c_forms.specs.declared.forms.Form.{Form}
use Rattle.c_forms.specs.declared.forms.Form.TheVariants as form
use Rattle.c_forms.specs.declared.forms.DeclaratorForm.TheVariants as declarator
use Rattle.c_forms.specs.Measures.{pieces}
use Rattle.c_forms.specs.Sets.{goes_on}
use Rattle.c_reader.specs.States.{State, Kept, Seen, happens}
use Rattle.c_reader.specs.Tokens.{Spot, spot}
use Rattle.c_reader.specs.Readers.{Reader, Turn, More, Last, Of, Give, Refuse, Look, Note, Bind, Call, Loop, Change, choose, token}
use Rattle.c_reader.proofs.Sets.{contrary}
use Rattle.c_reader.proofs.Leaves.{Turned}
use Rattle.c_reader.proofs.Phrases.{Tokens, Finishes, anything, opens_anything, fin_give, fin_ask, fin_look, fin_bind, fin_choose, fin_change, fin_token, fin_fits, fin_map, fin_last, fin_note, fin_call, fin_turn}
use Rattle.c_syntax.specs.Allowed.{may_happen}
use Rattle.c_syntax.specs.Reading.{Usual, Parts, Listed, nothing, one, node, deeper, called, with_first, pieces_in, completed}
use Rattle.c_syntax.specs.Grammar.{body, whole, Standing, standing, the_declarator, after_first, after_part, is_tail, continued_by, tail_by, turn, climb, declarator_head, declarator_of, is_value, leaf_if, in_place}
use Rattle.c_alive.proofs.Tame.{bounded_turn}
use Rattle.c_alive.proofs.Kept.{Still}
use Rattle.c_alive.proofs.Phrased.{none_of, past, a_word, opens_if}
use Rattle.c_alive.proofs.Tails.{declarator_over}
use Rattle.c_alive.proofs.Climbs.{fin_loop}
use Rattle.c_alive.proofs.Nodes.{fin_completed}
use Rattle.c_alive.proofs.Called.{Due, is_other}
use Rattle.c_lively.proofs.Endings.{calling}
use Rattle.c_lively.proofs.DueRows.{event_then, sign_of, function, after_tree, closing, parameters_end, listed, entering, after_paren, function_row, Function, close_function, aside_still}

pub fin_event : {A : Type 0} (e : Event) (r : Reader A) (z : State) (Q : Tokens) (J : A → State → Type 0) (u : List Shape) → may_happen e z ≡ true → Finishes body (happens e z) Q J r u → Finishes body z Q J (event_then e r) u
fin_event e r z Q J u m F = fin_ask body z Q J (λ i. choose (may_happen e i.state) (Change e r) Refuse) u (λ place. fin_choose body z Q J (may_happen e z) (Change e r) Refuse u (λ _. fin_change body z Q J e r u F) (λ no. contrary (may_happen e z) m no))

abbrev pub close : List Shape
close = shape.Punct punct.RightParen ∷ []

abbrev pub parens : List Shape
parens = shape.Punct punct.LeftParen ∷ close

module _ (a : List Kept) where
  abbrev pub Made : {A : Type 0} → A → State → Type 0
  Made x t = Function a t

  -- ---- parameters

  module _ (Q : Tokens) where
    pub fin_parameters_end : (k : Kept) → k.is_function_due ≡ true → is_other k.near ≡ false → (t : State) → Still (k ∷ a) t → Finishes body t Q Made parameters_end close
    fin_parameters_end k d o t m = fin_bind body t (λ _ t. Still (k ∷ a) t) anything Q Made (token (sign_of punct.RightParen)) (λ _. closing) close [] (fin_token body t anything (λ _ t. Still (k ∷ a) t) (shape.Punct punct.RightParen) (sign_of punct.RightParen) refl m)
        (opens_anything [] Q) (λ _ t m. fin_event event.Close (Give nothing) t Q Made [] refl (fin_give body (happens event.Close t) Q Made nothing (close_function k a t d o m)))

    pub fin_after_paren : (z : State) → Due a z → Finishes body z Q Made after_paren close
    fin_after_paren z k = fin_event event.Aside entering z Q Made close refl (fin_event event.Enter listed (happens event.Aside z) Q Made close refl
        (fin_bind body (happens event.Enter (happens event.Aside z)) (λ _ t. Still (z.kept ∷ a) t) (none_of (past s.Params 0)) Q Made (called s.Params 0) (after_tree parameters_end) [] close
        (calling.ends s.Params 0 refl (z.kept ∷ a) (happens event.Enter (happens event.Aside z)) (aside_still a z k.0)) (opens_if (past s.Params 0) close [] refl)
        (λ x t m. fin_map body t Made Q Made parameters_end (λ g. with_first x g) close (fin_parameters_end z.kept k.1.0 k.1.1 t m) (λ g t k. k))))

    fin_function : (z : State) → Due a z → Finishes body z Q Made function_row parens
    fin_function z k = fin_bind body z (λ _ t. Due a t) anything Q Made (token (sign_of punct.LeftParen)) (λ _. after_paren) (shape.Punct punct.LeftParen ∷ []) close (fin_token body z anything (λ _ t. Due a t) (shape.Punct punct.LeftParen) (sign_of punct.LeftParen) refl k)
        (opens_anything close Q) (λ _ t k. fin_after_paren t k)

    pub fin_made : (part : Parts) (own : _) (f : Form) (i : ℕ) (done : Listed) (ps : _) (z : State) (u : List Shape) → Finishes body z Q Made (pieces_in part own f Usual ps) u → Finishes body z Q Made (completed part own f i done ps) u
    fin_made part own f i done ps z u F = fin_completed (Function a) Q part own f i done ps z u F

    fin_tail : (i : ℕ) (y : Standing) (z : State) → Due a z → Finishes body z Q Made (tail_by s.Declarator i y (Some function)) parens
    unfolding pieces_in
    fin_tail i y z k = fin_fits body z Q Made y.found.height (standing 2 (after_part called s.Declarator function i (deeper y.found))) parens (fin_map body z Made Q Made (after_part called s.Declarator function i (deeper y.found)) (λ x. record { found = x; level = 2 }) parens
        (fin_made called s.Declarator function i (one (deeper y.found)) (after_first (pieces function)) z parens (fin_function z k)) (λ x t k. k))

    abbrev looked : ℕ → Spot → Standing → Seen → Reader (Turn Standing Standing)
    looked i k y x = choose (is_tail s.Declarator 1 k.state y (continued_by s.Declarator x.shape)) (Bind (tail_by s.Declarator i y (continued_by s.Declarator x.shape)) (λ t. Give (More t))) (Give (Last y))

    abbrev Turns : Turn Standing Standing → State → Type 0
    Turns = Turned {A = Standing} {S = Standing} Made Made

    is_one : (y : Standing) (z : State) → y.level ≡ 17 → is_tail s.Declarator 1 z y (Some function) ≡ true
    is_one y z e = ap (λ l. not (nat_lt l 2) && true) e

    fin_one : (i : ℕ) (y : Standing) (z : State) → y.level ≡ 17 → Due a z → Finishes body z Q Turns (turn s.Declarator 1 i y) parens
    fin_one i y z e k = fin_ask body z Q Turns (λ k. Look (looked i k y)) parens (λ place. fin_look body z Q Turns (looked i (spot place z) y) (shape.Punct punct.LeftParen) close
        (λ n. fin_choose body z Q Turns (is_tail s.Declarator 1 z y (Some function)) (Bind (tail_by s.Declarator i y (Some function)) (λ t. Give (More t))) (Give (Last y)) parens
        (λ _. fin_map body z Made Q Turns (tail_by s.Declarator i y (Some function)) More parens (fin_tail i y z k) (λ x t k. k)) (λ no. contrary (is_tail s.Declarator 1 z y (Some function)) (is_one y z e) no)))

  abbrev pub beyond : Tokens
  beyond = none_of (goes_on s.Declarator 1)

  -- nothing more, where parameters stand
  pub fin_over : (i : ℕ) (y : Standing) (z : State) → Function a z → Finishes body z beyond Made (Loop (turn s.Declarator 1 i) y) []
  fin_over i y z k = fin_loop s.Declarator 1 i (Function a) beyond (λ y z x q. declarator_over 1 z y x q) z y k

  pub fin_none : (i : ℕ) (y : Standing) (z : State) → Function a z → Finishes body z beyond Made (climb s.Declarator 1 i y) []
  unfolding climb
  fin_none i y z k = fin_map body z Made beyond Made (Loop (turn s.Declarator 1 i) y) (λ s. s.found) [] (fin_over i y z k) (λ x t k. k)

  -- or its parameters
  pub fin_parens : (i : ℕ) (y : Standing) (z : State) → y.level ≡ 17 → Due a z → Finishes body z beyond Made (climb s.Declarator 1 i y) parens
  unfolding climb
  fin_parens i y z e k = fin_map body z Made beyond Made (Loop (turn s.Declarator 1 i) y) (λ s. s.found) parens
      (fin_turn body z Made beyond Made (turn s.Declarator 1 i) (bounded_turn s.Declarator 1 i) y parens (λ y z k. fin_over i y z k) (fin_one beyond i y z e k)) (λ x t k. k)

  -- ---- the name

  abbrev pub Named : Standing → State → Type 0
  Named y t = (y.level ≡ 17) × Due a t

  abbrev named : Form
  named = the_declarator declarator.Named

  fin_word : (n : ℕ) (z : State) → Due a z → Finishes body z anything (λ _ t. Due a t) (in_place (suc n) s.DeclaredId 0) (a_word ∷ [])
  unfolding in_place
  fin_word n z k = fin_ask body z anything (λ _ t. Due a t) (λ i. Note (λ x. leaf_if (is_value x) form.Id i.place x)) (a_word ∷ []) (λ place. fin_note body z anything (λ _ t. Due a t) (λ x. leaf_if (is_value x) form.Id place x) a_word
      (λ n. node (form.Id (record { 0 = n })) place (place + 1) nothing) (λ n. refl) (λ n y. (k.0, (k.1.0, refl))))

  fin_named : (n : ℕ) (z : State) → Due a z → Finishes body z anything (λ _ t. Due a t) (whole (in_place (suc n)) s.Declarator named) (a_word ∷ [])
  unfolding whole pieces_in
  fin_named n z k = fin_ask body z anything (λ _ t. Due a t) (λ i. completed (in_place (suc n)) s.Declarator named i.place nothing (pieces named)) (a_word ∷ []) (λ place. fin_completed (Due a) anything (in_place (suc n)) s.Declarator named place nothing (pieces named) z (a_word ∷ [])
      (fin_last body z (λ _ t. Due a t) anything anything (λ _ t. Due a t) (in_place (suc n) s.DeclaredId 0) (after_tree (Give nothing)) (a_word ∷ []) (fin_word n z k) (λ x q. q) (λ x t k. fin_map body t (λ _ t. Due a t) anything (λ _ t. Due a t) (Give nothing) (λ g. with_first x g) [] (fin_give body t anything (λ _ t. Due a t) nothing k) (λ g t k. k))))

  fin_head : (n : ℕ) (z : State) → Due a z → Finishes body z anything Named (declarator_head (in_place (suc n)) s.Declarator 1) (a_word ∷ [])
  unfolding declarator_head
  fin_head n z k = fin_ask body z anything Named _ (a_word ∷ []) (λ place. fin_look body z anything Named _ a_word []
      (λ m. fin_map body z (λ _ t. Due a t) anything Named (whole (in_place (suc n)) s.Declarator named) (λ x. record { found = x; level = 17 }) (a_word ∷ []) (fin_named n z k) (λ x t k. (refl, k))))

  -- both
  pub fin_due : (n : ℕ) (z : State) → Due a z → Finishes body z beyond Made (in_place (suc (suc n)) s.Declarator 1) (a_word ∷ parens)
  unfolding in_place declarator_of
  fin_due n z k = fin_ask body z beyond Made (λ i. Bind (declarator_head (in_place (suc n)) s.Declarator 1) (λ y. climb s.Declarator 1 i.place y)) (a_word ∷ parens) (λ place. fin_bind body z Named anything beyond Made (declarator_head (in_place (suc n)) s.Declarator 1) (λ y. climb s.Declarator 1 place y) (a_word ∷ []) parens
      (fin_head n z k) (opens_anything parens beyond) (λ y t m. fin_parens place y t m.0 m.1))

  pub fin_called_due : (z : State) → Due a z → Finishes body z beyond Made (Call (Of s.Declarator 1)) (a_word ∷ parens)
  fin_called_due z k = fin_call body z beyond Made (Of s.Declarator 1) (a_word ∷ parens) (fin_due 7 z k)

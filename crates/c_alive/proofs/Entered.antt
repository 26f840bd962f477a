-- After an opening parenthesis, or `sizeof`, an expression can be completed.
use Rattle.std.proofs.Common.{◌≡◌, refl, ℕ, ◌<◌, nat_lt, true, false, List, ◌∷◌, arith}
use Rattle.c_tokens.specs.declared.token.Shape.{Shape}
use Rattle.c_forms.specs.declared.pieces.Event.TheVariants as event
use Rattle.c_forms.specs.declared.pieces.Sort.TheVariants as s
use Rattle.c_forms.specs.declared.forms.Form.{Form}
use Rattle.c_forms.specs.declared.forms.Form.TheVariants as form
use Rattle.c_forms.specs.declared.forms.ExpForm.TheVariants as exp
use Rattle.c_forms.specs.Measures.{level, pieces}
use Rattle.c_forms.specs.Sets.{goes_on}
use Rattle.c_reader.specs.States.{State, Kept, Seen, seen, happens}
use Rattle.c_reader.specs.Readers.{Reader, Found, Refuse, Look, Change, choose}
use Rattle.c_reader.proofs.Sets.{contrary}
use Rattle.c_reader.proofs.Phrases.{Tokens, Finishes, Begun, begun_next, fin_change, fin_look, fin_choose, fin_fewer, fin_map}
use Rattle.c_reader.proofs.Live.{Live, live_choose, live_map, live_next}
use Rattle.c_syntax.specs.Reading.{Usual, nothing, called, completed}
use Rattle.c_syntax.specs.Grammar.{body, Standing, standing, tight, begins, type_or, entered, parenthesized, after_paren}
use Rattle.c_alive.proofs.Kept.{Still, Within, event_within}
use Rattle.c_alive.proofs.Phrased.{none_of, a_word, live_fewer}
use Rattle.c_alive.proofs.FitRows.{operand, operand_ends, cast_fits}
use Rattle.c_alive.proofs.Rows.{live_pieces}
use Rattle.c_alive.proofs.Nodes.{live_completed}
use Rattle.c_alive.proofs.Operands.{in_body, operands_ending, operands_able}
use Rattle.c_alive.proofs.Parens.{and_close, fin_wrapped, live_wrapped}
use Rattle.c_alive.proofs.ExpTails.{fewer}
use Rattle.c_alive.proofs.Called.{calls}

module _ (least : ℕ) (a : List Kept) where
  abbrev Held : {A : Type 0} → A → State → Type 0
  Held x t = Still a t

  abbrev past : Tokens
  past = none_of (goes_on s.Exp least)

  abbrev past_form : Form → Tokens
  past_form f = none_of (goes_on s.Exp (level f))

  abbrev raised : Form → Found → Standing
  raised f x = record { found = x; level = level f }

  pub live_tight : (deep : ℕ) (f : Form) (r : Reader Found) (z : State) (y : Shape) → Live body calls deep z y (past_form f) Held r → Live body calls deep z y past Held (tight least f r)
  live_tight deep f r z y L = live_choose body calls deep z y past Held (nat_lt (level f) least) Refuse (standing (level f) r) (λ _. tt)
      (λ low. live_fewer body calls deep z y (past_form f) past Held (standing (level f) r) (fewer least f low) (live_map body calls deep z y Held (past_form f) (past_form f) Held r (raised f) (λ x q. q) (λ x t k. k) L))

  pub fin_tight : (f : Form) (r : Reader Found) (z : State) (u : List Shape) → nat_lt (level f) least ≡ false → Finishes body z (past_form f) Held r u → Finishes body z past Held (tight least f r) u
  fin_tight f r z u low F = fin_choose body z past Held (nat_lt (level f) least) Refuse (standing (level f) r) u (λ e. absurd (contrary (nat_lt (level f) least) e low))
      (λ _. fin_fewer body z (past_form f) past Held Held (standing (level f) r) u (fewer least f low) (λ x t k. k) (fin_map body z Held (past_form f) Held r (raised f) u F (λ x t k. k)))

  module _ (named other : Reader Standing) (fin_other : (t : State) → Still a t → Finishes body t past Held other (a_word ∷ and_close)) where
    abbrev pub either_one : Seen → Reader Standing
    either_one y = choose (begins s.TypeName y) named (Change event.Resume other)

    abbrev pub inside : Reader Standing
    inside = Change event.Aside (Look either_one)

    back : (z : State) → Still a z → Still a (happens event.Resume (happens event.Aside z))
    back z k = event_within event.Resume true a (happens event.Aside z) refl (event_within event.Aside false a z refl k)

    pub fin_inside : (z : State) → Still a z → Finishes body z past Held inside (a_word ∷ and_close)
    fin_inside z k = fin_change body z past Held event.Aside (Look either_one) (a_word ∷ and_close) (fin_look body (happens event.Aside z) past Held either_one a_word and_close
        (λ n. fin_change body (happens event.Aside z) past Held event.Resume other (a_word ∷ and_close) (fin_other (happens event.Resume (happens event.Aside z)) (back z k))))

    pub begun_type_or : (z : State) (y : Shape) → Still a z → Begun body z y past Held (type_or named other)
    unfolding type_or
    begun_type_or z y k = begun_next body z y past Held inside (record { tokens = a_word ∷ and_close; finishes = fin_inside z k })

    pub live_type_or : (deep : ℕ) → ((t : State) (y : Shape) → Within true a t → Live body calls deep t y past Held named) → ((t : State) (y : Shape) → Still a t → Live body calls deep t y past Held other) → (z : State) (y : Shape) → Still a z → Live body calls deep z y past Held (type_or named other)
    unfolding type_or
    live_type_or deep N O z y k = live_next body calls deep z y past Held inside (a_word ∷ and_close) (fin_inside z k)
        (λ x. live_choose body calls deep (happens event.Aside z) x past Held (begins s.TypeName (seen (happens event.Aside z) x)) named (Change event.Resume other) (λ _. N (happens event.Aside z) x (event_within event.Aside false a z refl k)) (λ _. O (happens event.Resume (happens event.Aside z)) x (back z k)))

  -- a cast, or an expression in parentheses
  abbrev pub cast : ℕ → Reader Standing
  cast i = tight least (form.Exp exp.Cast) (completed called s.Exp (form.Exp exp.Cast) i nothing (after_paren (pieces (form.Exp exp.Cast))))

  live_cast : (deep : ℕ) → 0 < deep → (i : ℕ) (z : State) (y : Shape) → Within true a z → Live body calls deep z y past Held (cast i)
  live_cast deep room i z y w = live_tight deep (form.Exp exp.Cast) (completed called s.Exp (form.Exp exp.Cast) i nothing (after_paren (pieces (form.Exp exp.Cast)))) z y
      (live_completed (Still a) (past_form (form.Exp exp.Cast)) called s.Exp (form.Exp exp.Cast) i nothing (after_paren (pieces (form.Exp exp.Cast))) calls deep z y
      (live_pieces calls deep called s.Exp (form.Exp exp.Cast) operand operand_ends (operands_ending true) (operands_able deep room true) (goes_on s.Exp 14) true Usual (after_paren (pieces (form.Exp exp.Cast))) cast_fits a z y w))

  pub live_entered : (deep i : ℕ) (z : State) (y : Shape) → Still a z → Live body calls deep z y past Held (entered least i)
  live_entered deep i z y k = (
    begun_type_or (cast i) (standing 17 (parenthesized s.Exp)) (fin_wrapped s.Exp a (goes_on s.Exp least) refl (in_body s.Exp 1 refl a)) z y k,
    live_type_or (cast i) (standing 17 (parenthesized s.Exp)) (fin_wrapped s.Exp a (goes_on s.Exp least) refl (in_body s.Exp 1 refl a)) 1 (λ t y w. live_cast 1 (omega arith) i t y w) (λ t y k. live_wrapped s.Exp a (goes_on s.Exp least) refl refl refl 1 (omega arith) t y k) z y k,
  )

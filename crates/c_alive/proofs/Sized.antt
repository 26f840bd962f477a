-- `sizeof` can be completed.
use Rattle.std.proofs.Common.{◌≡◌, refl, ℕ, ◌<◌, ◌-◌, nat_lt, true, false, List, [], ◌∷◌, arith}
use Rattle.c_tokens.specs.declared.token.Punct.TheVariants as punct
use Rattle.c_tokens.specs.declared.token.Shape.{Shape}
use Rattle.c_forms.specs.declared.pieces.Sort.TheVariants as s
use Rattle.c_forms.specs.declared.forms.Form.TheVariants as form
use Rattle.c_forms.specs.declared.forms.ExpForm.TheVariants as exp
use Rattle.c_forms.specs.Measures.{pieces}
use Rattle.c_forms.specs.Sets.{goes_on}
use Rattle.c_reader.specs.States.{State, Kept, Seen, seen}
use Rattle.c_reader.specs.Readers.{Reader, Found, Opened, Give, Refuse, Look, Bind, Fits, Call, Ask, choose}
use Rattle.c_reader.proofs.Leaves.{anyhow, leaves_anyhow}
use Rattle.c_reader.proofs.Phrases.{Tokens, Finishes, begun_next, fin_give, fin_ask, fin_call, fin_look, fin_fits, fin_last}
use Rattle.c_reader.proofs.Live.{Live, live_bind, live_choose, live_next}
use Rattle.c_syntax.specs.Reading.{Usual, Parts, nothing, one, node, deeper, called, completed}
use Rattle.c_syntax.specs.Grammar.{body, Standing, standing, tight, is_sign, begins, type_or, sized, sized_opened, parenthesized, opened, climb, after_first, after_paren}
use Rattle.c_alive.proofs.Kept.{Still, Within}
use Rattle.c_alive.proofs.Phrased.{none_of, a_word}
use Rattle.c_alive.proofs.FitRows.{operand, operand_ends, sizeof_type_fits}
use Rattle.c_alive.proofs.Tails.{exp_over}
use Rattle.c_alive.proofs.Rows.{fin_pieces, live_pieces}
use Rattle.c_alive.proofs.Nodes.{live_completed, fin_completed}
use Rattle.c_alive.proofs.Operands.{in_body, operands_ending, operands_able}
use Rattle.c_alive.proofs.Climbs.{fin_climb}
use Rattle.c_alive.proofs.Parens.{and_close, fin_wrapped}
use Rattle.c_alive.proofs.Entered.{live_tight, fin_tight, live_type_or}
use Rattle.c_alive.proofs.Called.{calls, live_rule}

module _ (a : List Kept) where
  abbrev Held : {A : Type 0} → A → State → Type 0
  Held x t = Still a t

  abbrev past_size : Tokens
  past_size = none_of (goes_on s.Exp 15)

  abbrev first_paren : Reader Standing
  first_paren = Look (λ x. choose (begins s.Exp x) (Fits 0 (standing 17 (parenthesized s.Exp))) Refuse)

  -- what `sizeof` and a parenthesis come before
  pub fin_opened : (z : State) → Still a z → Finishes body z past_size Held opened (a_word ∷ and_close)
  unfolding opened
  fin_opened z k = fin_ask body z past_size Held (λ i. Bind first_paren (λ y. climb s.Exp 15 (i.place - 1) y)) (a_word ∷ and_close) (λ place. fin_last body z Held past_size past_size Held first_paren (λ y. climb s.Exp 15 (place - 1) y) (a_word ∷ and_close)
      (fin_look body z past_size Held (λ x. choose (begins s.Exp x) (Fits 0 (standing 17 (parenthesized s.Exp))) Refuse) a_word and_close (λ n. fin_fits body z past_size Held 0 (standing 17 (parenthesized s.Exp)) (a_word ∷ and_close) (fin_wrapped s.Exp a (goes_on s.Exp 15) refl (in_body s.Exp 1 refl a) z k)))
      (λ x q. q) (λ y t k. fin_climb s.Exp 15 (place - 1) (Still a) past_size (λ y z x q. exp_over 15 z y x q) t y k))

  abbrev from_opened : ℕ → Found → Reader Found
  from_opened i x = Ask (λ j. Give (node (form.Exp exp.SizeofExp) i j.place (one (deeper x))))

  fin_from : (i : ℕ) (x : Found) (t : State) → Still a t → Finishes body t past_size Held (from_opened i x) []
  fin_from i x t k = fin_ask body t past_size Held (λ j. Give (node (form.Exp exp.SizeofExp) i j.place (one (deeper x)))) [] (λ place. fin_give body t past_size Held (node (form.Exp exp.SizeofExp) i place (one (deeper x))) k)

  fin_sized_opened : (i : ℕ) (z : State) → Still a z → Finishes body z past_size Held (sized_opened i) (a_word ∷ and_close)
  fin_sized_opened i z k = fin_last body z Held past_size past_size Held (Call Opened) (from_opened i) (a_word ∷ and_close) (fin_call body z past_size Held Opened (a_word ∷ and_close) (fin_opened z k)) (λ x q. q) (λ x t k. fin_from i x t k)

  live_sized_opened : (deep : ℕ) → 0 < deep → (i : ℕ) (z : State) (y : Shape) → Still a z → Live body calls deep z y past_size Held (sized_opened i)
  live_sized_opened deep room i z y k = live_bind body calls deep z y anyhow Held past_size past_size Held (Call Opened) (from_opened i) (live_rule deep room Opened refl refl a z y k) (leaves_anyhow body z y (Call Opened))
      (record { tokens = []; opens = λ x q. q; finishes = λ x t k. fin_from i x t k }) (λ x t y _ place. tt)

  module _ (least : ℕ) (low : nat_lt 15 least ≡ false) where
    abbrev past : Tokens
    past = none_of (goes_on s.Exp least)

    abbrev plainly : ℕ → Reader Found
    plainly i = completed called s.Exp (form.Exp exp.SizeofExp) i nothing (after_first (pieces (form.Exp exp.SizeofExp)))

    abbrev of_type : ℕ → Reader Found
    of_type i = completed called s.Exp (form.Exp exp.SizeofType) i nothing (after_paren (pieces (form.Exp exp.SizeofType)))

    fin_plainly : (i : ℕ) (z : State) → Still a z → Finishes body z past Held (tight least (form.Exp exp.SizeofExp) (plainly i)) (a_word ∷ [])
    fin_plainly i z k = fin_tight least a (form.Exp exp.SizeofExp) (plainly i) z (a_word ∷ []) low (fin_completed (Still a) past_size called s.Exp (form.Exp exp.SizeofExp) i nothing (after_first (pieces (form.Exp exp.SizeofExp))) z (a_word ∷ [])
        (fin_pieces called s.Exp (form.Exp exp.SizeofExp) operand_ends (operands_ending true) (goes_on s.Exp 15) false Usual (after_first (pieces (form.Exp exp.SizeofExp))) refl a z k))

    live_plainly : (deep : ℕ) → 0 < deep → (i : ℕ) (z : State) (y : Shape) → Still a z → Live body calls deep z y past Held (tight least (form.Exp exp.SizeofExp) (plainly i))
    live_plainly deep room i z y k = live_tight least a deep (form.Exp exp.SizeofExp) (plainly i) z y (live_completed (Still a) past_size called s.Exp (form.Exp exp.SizeofExp) i nothing (after_first (pieces (form.Exp exp.SizeofExp))) calls deep z y
        (live_pieces calls deep called s.Exp (form.Exp exp.SizeofExp) operand operand_ends (operands_ending true) (operands_able deep room true) (goes_on s.Exp 15) false Usual (after_first (pieces (form.Exp exp.SizeofExp))) refl a z y k))

    live_of_type : (deep : ℕ) → 0 < deep → (i : ℕ) (z : State) (y : Shape) → Within true a z → Live body calls deep z y past Held (tight least (form.Exp exp.SizeofType) (of_type i))
    live_of_type deep room i z y w = live_tight least a deep (form.Exp exp.SizeofType) (of_type i) z y (live_completed (Still a) past_size called s.Exp (form.Exp exp.SizeofType) i nothing (after_paren (pieces (form.Exp exp.SizeofType))) calls deep z y
        (live_pieces calls deep called s.Exp (form.Exp exp.SizeofType) operand operand_ends (operands_ending true) (operands_able deep room true) (goes_on s.Exp 15) true Usual (after_paren (pieces (form.Exp exp.SizeofType))) sizeof_type_fits a z y w))

    abbrev in_parens : ℕ → Reader Standing
    in_parens i = type_or (tight least (form.Exp exp.SizeofType) (of_type i)) (tight least (form.Exp exp.SizeofExp) (sized_opened i))

    abbrev pub operand_at : ℕ → Seen → Reader Standing
    operand_at i x = choose (is_sign punct.LeftParen x) (in_parens i) (tight least (form.Exp exp.SizeofExp) (plainly i))

    pub fin_operand : (i : ℕ) (z : State) → Still a z → Finishes body z past Held (Look (operand_at i)) (a_word ∷ [])
    fin_operand i z k = fin_look body z past Held (operand_at i) a_word [] (λ n. fin_plainly i z k)

    pub live_sized : (inner : Parts) (deep i : ℕ) (z : State) (y : Shape) → Still a z → Live body calls deep z y past Held (sized inner least i)
    live_sized inner deep i z y k = (
      begun_next body z y past Held (Look (operand_at i)) (record { tokens = a_word ∷ []; finishes = fin_operand i z k }),
      live_next body calls 1 z y past Held (Look (operand_at i)) (a_word ∷ []) (fin_operand i z k)
          (λ x. live_choose body calls 1 z x past Held (is_sign punct.LeftParen (seen z x)) (in_parens i) (tight least (form.Exp exp.SizeofExp) (plainly i))
          (λ _. live_type_or least a (tight least (form.Exp exp.SizeofType) (of_type i)) (tight least (form.Exp exp.SizeofExp) (sized_opened i)) (λ t k. fin_tight least a (form.Exp exp.SizeofExp) (sized_opened i) t (a_word ∷ and_close) low (fin_sized_opened i t k)) 1
          (λ t y w. live_of_type 1 (omega arith) i t y w) (λ t y k. live_tight least a 1 (form.Exp exp.SizeofExp) (sized_opened i) t y (live_sized_opened 1 (omega arith) i t y k)) z x k)
          (λ _. live_plainly 1 (omega arith) i z x k)),
    )

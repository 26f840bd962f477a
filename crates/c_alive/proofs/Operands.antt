-- The operands of expressions, where they are called.
use Rattle.std.proofs.Common.{◌≡◌, refl, ◌∙◌, ap, ℕ, ◌+◌, ◌<◌, nat_lt, not, Bool, true, false, List, [], ◌∷◌, arith}
use Rattle.std.proofs.lemmas.Bool.{lt-ltb}
use borrow.Author.Tests.{ltb-true}
use Rattle.c_tokens.specs.declared.token.Shape.{Shape}
use Rattle.c_forms.specs.declared.pieces.Sort.{Sort}
use Rattle.c_forms.specs.declared.pieces.Sort.TheVariants as s
use Rattle.c_forms.specs.declared.forms.Form.TheVariants as form
use Rattle.c_forms.specs.Sets.{goes_on}
use Rattle.c_reader.specs.States.{State, Kept}
use Rattle.c_reader.specs.Readers.{Of, Give, Call, Pick, below}
use Rattle.c_reader.proofs.Sets.{contrary, not_true}
use Rattle.c_reader.proofs.Leaves.{Leaves, leaving_bind, leaving_give, leaving_more}
use Rattle.c_reader.proofs.Phrases.{Tokens, Finishes, fin_ask, fin_pick}
use Rattle.c_reader.proofs.Live.{Live}
use Rattle.c_syntax.specs.Reading.{nothing, node, called, deeper, parts_by}
use Rattle.c_syntax.specs.Grammar.{body, identifier, in_place, leaf_if, is_word}
use Rattle.c_alive.proofs.Kept.{Still, KeptBy, is_item, kept_call}
use Rattle.c_alive.proofs.Phrased.{none_of, past, phrase, a_word}
use Rattle.c_alive.proofs.Rows.{Ending, Able}
use Rattle.c_alive.proofs.Tame.{firm_called}
use Rattle.c_alive.proofs.FitRows.{is_reached, operand, operand_ends}
use Rattle.c_alive.proofs.Words.{fin_expression}
use Rattle.c_alive.proofs.Called.{calls, live_called, fin_called}

pub below_words : (least : ℕ) → not (nat_lt 15 least) ≡ true → nat_lt 17 least ≡ false
below_words least low = by_test (nat_lt 17 least) refl
  where
    by_test : (b : Bool) → nat_lt 17 least ≡ b → nat_lt 17 least ≡ false
    by_test false e = e
    by_test true e = contrary (nat_lt 15 least) (lt-ltb 15 least (omega (arith, ltb-true 17 least e))) (not_true (nat_lt 15 least) low)

pub kept_called : (due : Sort) (least : ℕ) → is_item due ≡ false → (a : List Kept) (z : State) (y : Shape) → Still a z → Leaves body z y (called due least) (λ _ t. Still a t)
kept_called due least h a z y k d = leaving_bind (below body d) d z y (Call (Of due least)) (λ x. Give (deeper x)) (λ _ t. Still a t) (λ _ t. Still a t)
    (leaving_more (below body d) d z y (Call (Of due least)) (KeptBy (Of due least) z y) (λ _ t. Still a t) (λ x t m. let r = m (ap not h) k.1 in (r.0 ∙ k.0, r.1)) (kept_call (Of due least) z y d))
    (λ x t y k. leaving_give (below body d) d t y (deeper x) (λ _ t. Still a t) k)

pub fin_identifier : (a : List Kept) (z : State) (Q : Tokens) → Still a z → Finishes body z Q (λ _ t. Still a t) identifier (a_word ∷ [])
fin_identifier a z Q k = fin_ask body z Q (λ _ t. Still a t) (λ i. Pick (λ x. leaf_if (is_word x) form.Id i.place x)) (a_word ∷ []) (λ place. fin_pick body z Q (λ _ t. Still a t) (λ x. leaf_if (is_word x) form.Id place x) a_word
    (λ n. node (form.Id (record { 0 = n })) place (place + 1) nothing) (λ n. refl) (λ n. k))

operand_item : (due : Sort) (least : ℕ) → operand due least ≡ true → (is_item due ≡ false) × (is_reached due least ≡ true)
operand_item s.Exp least h = (refl, h)
operand_item s.Id least h = (refl, refl)
operand_item s.TypeName least h = (refl, refl)
operand_item _ least h = absurd (cc h)

pub in_body : (due : Sort) (least : ℕ) → operand_ends due least ≡ true → (a : List Kept) (z : State) → Still a z → Finishes body z (none_of (goes_on due least)) (λ _ t. Still a t) (in_place 9 due least) (phrase due)
unfolding in_place
in_body s.Exp least h a z k = fin_expression (in_place 8) least (below_words least h) a z k
in_body s.Id least h a z k = fin_identifier a z (none_of (goes_on s.Id least)) k
in_body _ least h a z k = absurd (cc h)

operand_lives : (deep : ℕ) → 0 < deep → (due : Sort) (least : ℕ) → operand due least ≡ true → (a : List Kept) (z : State) (y : Shape) → Still a z → Live body calls deep z y (none_of (past due least)) (λ _ t. Still a t) (called due least)
operand_lives deep room s.Exp least h a z y k = live_called deep room s.Exp least refl h a z y k
operand_lives deep room s.Id least h a z y k = live_called deep room s.Id least refl refl a z y k
operand_lives deep room s.TypeName least h a z y k = live_called deep room s.TypeName least refl refl a z y k
operand_lives deep room _ least h a z y k = absurd (cc h)

operand_finishes : (due : Sort) (least : ℕ) → operand_ends due least ≡ true → (a : List Kept) (z : State) → Still a z → Finishes body z (none_of (past due least)) (λ _ t. Still a t) (called due least) (phrase due)
operand_finishes s.Exp least h a z k = fin_called s.Exp least a z (in_body s.Exp least h a z k)
operand_finishes s.Id least h a z k = fin_called s.Id least a z (in_body s.Id least h a z k)
operand_finishes _ least h a z k = absurd (cc h)

-- where they are called
operands_end : Ending called operand_ends
operands_end = record { firm = firm_called; ends = operand_finishes }

operands_live : (deep : ℕ) → 0 < deep → Able calls deep called operand
operands_live deep room = record { lives = operand_lives deep room; leaves = λ due least h a z y k. kept_called due least (operand_item due least h).0 a z y k }

pub operands_ending : (b : Bool) → Ending (parts_by b called) operand_ends
operands_ending true = operands_end
operands_ending false = operands_end

pub operands_able : (deep : ℕ) → 0 < deep → (b : Bool) → Able calls deep (parts_by b called) operand
operands_able deep room true = operands_live deep room
operands_able deep room false = operands_live deep room

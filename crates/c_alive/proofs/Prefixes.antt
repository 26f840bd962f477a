-- What begins an expression by its first token can be completed.
use Rattle.std.proofs.Common.{◌≡◌, ◌⊎◌, inl, inr, refl, ℕ, suc, ◌+◌, [], not, Bool, true, false, ◌&&◌, ◌||◌, List, Option, Some, None, arith}
use Rattle.c_tokens.specs.declared.token.Punct.{Punct}
use Rattle.c_tokens.specs.declared.token.Punct.TheVariants as punct
use Rattle.c_tokens.specs.declared.token.Key.{Key}
use Rattle.c_tokens.specs.declared.token.Key.TheVariants as key
use Rattle.c_tokens.specs.declared.token.Shape.{Shape}
use Rattle.c_tokens.specs.declared.token.Shape.TheVariants as shape
use Rattle.c_forms.specs.declared.pieces.Sort.{Sort}
use Rattle.c_forms.specs.declared.pieces.Sort.TheVariants as s
use Rattle.c_forms.specs.declared.forms.Form.{Form}
use Rattle.c_forms.specs.declared.forms.Form.TheVariants as form
use Rattle.c_forms.specs.Measures.{level, pieces}
use Rattle.c_forms.specs.Tokens.{begun}
use Rattle.c_forms.specs.Sets.{goes_on}
use Rattle.c_reader.specs.States.{State, Kept, class}
use Rattle.c_reader.proofs.Sets.{either}
use Rattle.c_reader.specs.Readers.{Pick}
use Rattle.c_reader.proofs.Leaves.{Leaves}
use Rattle.c_reader.proofs.Phrases.{Tokens, Finishes, fin_ask, fin_pick}
use Rattle.c_reader.proofs.Live.{Live}
use Rattle.c_syntax.specs.Reading.{Usual, nothing, called, node, parts_by, is_starred, completed}
use Rattle.c_syntax.specs.Grammar.{body, whole, charged, begun_by, in_place, literal, literal_of}
use Rattle.c_alive.proofs.Kept.{Still, kept_in_place}
use Rattle.c_alive.proofs.Tame.{firm_in_place}
use Rattle.c_alive.proofs.Phrased.{none_of, past, phrase}
use Rattle.c_alive.proofs.FitRows.{operand, operand_ends}
use Rattle.c_alive.proofs.Rows.{Ending, Able, fit_from, begins_with, live_pieces, begun_pieces}
use Rattle.c_alive.proofs.Nodes.{live_completed, begun_completed}
use Rattle.c_alive.proofs.Operands.{operands_ending, operands_able}
use Rattle.c_alive.proofs.Entered.{live_tight}
use Rattle.c_alive.proofs.Called.{calls}

-- the parts of what begins an expression and is no operand
abbrev pub a_literal : Sort → ℕ → Bool
a_literal s.Literal least = true
a_literal due least = false

abbrev pub with_operands : Form → Bool
with_operands f = fit_from operand operand_ends s.Exp false (pieces f) (goes_on s.Exp (level f))

abbrev pub alone : Form → Bool
alone f = fit_from a_literal a_literal s.Exp false (pieces f) (goes_on s.Exp (level f))

abbrev pub fits_by : Bool → Form → Bool
fits_by b f = (b && with_operands f) || (not b && alone f)

abbrev pub begun_fits : Option Form → Bool
begun_fits (Some f) = fits_by (is_starred f) f
begun_fits None = true

abbrev pub begun_starts : State → Shape → Option Form → Bool
begun_starts z x (Some f) = not (is_starred f) || begins_with f (pieces f) (class z x)
begun_starts z x None = true

sign_fits : (p : Punct) → begun_fits (begun s.Exp (shape.Punct p)) ≡ true
sign_fits punct.LeftBracket = refl
sign_fits _ = refl

key_fits : (k : Key) → begun_fits (begun s.Exp (shape.Key k)) ≡ true
key_fits key.Sizeof = refl
key_fits _ = refl

pub shape_fits : (x : Shape) → begun_fits (begun s.Exp x) ≡ true
shape_fits (shape.Punct p) = sign_fits p
shape_fits (shape.Key k) = key_fits k
shape_fits _ = refl

sign_starts : (z : State) (p : Punct) → begun_starts z (shape.Punct p) (begun s.Exp (shape.Punct p)) ≡ true
sign_starts z punct.LeftBracket = refl
sign_starts z _ = refl

key_starts : (z : State) (k : Key) → begun_starts z (shape.Key k) (begun s.Exp (shape.Key k)) ≡ true
key_starts z key.Sizeof = refl
key_starts z _ = refl

pub shape_starts : (z : State) (x : Shape) → begun_starts z x (begun s.Exp x) ≡ true
shape_starts z (shape.Punct p) = sign_starts z p
shape_starts z (shape.Key k) = key_starts z k
shape_starts z _ = refl

pub fin_literal : (a : List Kept) (z : State) → Still a z → Finishes body z (none_of []) (λ _ t. Still a t) literal (phrase s.Literal)
fin_literal a z k = fin_ask body z (none_of []) (λ _ t. Still a t) (λ i. Pick (λ x. literal_of x.shape i.place)) (phrase s.Literal)
    (λ place. fin_pick body z (none_of []) (λ _ t. Still a t) (λ x. literal_of x.shape place) (shape.Str (record { 0 = 0 })) (λ _. node (form.Literal (record { 0 = 0 })) place (place + 1) nothing) (λ _. refl) (λ _. k))

literal_ends : (n : ℕ) (due : Sort) (least : ℕ) → a_literal due least ≡ true → (a : List Kept) (z : State) → Still a z → Finishes body z (none_of (past due least)) (λ _ t. Still a t) (in_place (suc n) due least) (phrase due)
unfolding in_place
literal_ends n s.Literal least h a z k = fin_literal a z k
literal_ends n _ least h a z k = absurd (cc h)

pub literals_end : (n : ℕ) → Ending (in_place (suc n)) a_literal
literals_end n = record { firm = firm_in_place (suc n); ends = literal_ends n }

literal_lives : (deep n : ℕ) (due : Sort) (least : ℕ) → a_literal due least ≡ true → (a : List Kept) (z : State) (y : Shape) → Still a z → Live body calls deep z y (none_of (past due least)) (λ _ t. Still a t) (in_place (suc n) due least)
unfolding in_place
literal_lives deep n s.Literal least h a z y k = λ place. ((λ x e. k), tt)
literal_lives deep n _ least h a z y k = absurd (cc h)

literal_leaves : (n : ℕ) (due : Sort) (least : ℕ) → a_literal due least ≡ true → (a : List Kept) (z : State) (y : Shape) → Still a z → Leaves body z y (in_place (suc n) due least) (λ _ t. Still a t)
literal_leaves n s.Literal least h a z y k = kept_in_place (suc n) s.Literal least a z y refl k
literal_leaves n _ least h a z y k = absurd (cc h)

literals_live : (deep n : ℕ) → Able calls deep (in_place (suc n)) a_literal
literals_live deep n = record { lives = literal_lives deep n; leaves = literal_leaves n }

module _ (a : List Kept) where
  abbrev Held : {A : Type 0} → A → State → Type 0
  Held x t = Still a t

  abbrev beyond : Form → Tokens
  beyond f = none_of (goes_on s.Exp (level f))

  live_charged : (n deep place : ℕ) (f : Form) (z : State) (y : Shape) → Still a z → (b : Bool) → fits_by b f ≡ true → (not b || begins_with f (pieces f) (class z y)) ≡ true
      → Live body calls deep z y (beyond f) Held (charged b (completed (parts_by b (in_place (suc n))) s.Exp f place nothing (pieces f)))
  live_charged n deep place f z y k true h o = let fits = plainly (either (with_operands f) false h) in (
    begun_completed (Still a) (beyond f) called s.Exp f place nothing (pieces f) z y (begun_pieces called s.Exp f operand operand_ends (operands_ending true) (goes_on s.Exp (level f)) false Usual (pieces f) fits a z y k o),
    live_completed (Still a) (beyond f) called s.Exp f place nothing (pieces f) calls 1 z y (live_pieces calls 1 called s.Exp f operand operand_ends (operands_ending true) (operands_able 1 (omega arith) true) (goes_on s.Exp (level f)) false Usual (pieces f) fits a z y k),
  )
    where
      plainly : (with_operands f ≡ true) ⊎ (false ≡ true) → with_operands f ≡ true
      plainly (inl e) = e
      plainly (inr e) = absurd (cc e)
  live_charged n deep place f z y k false h o = live_completed (Still a) (beyond f) (in_place (suc n)) s.Exp f place nothing (pieces f) calls deep z y
      (live_pieces calls deep (in_place (suc n)) s.Exp f a_literal a_literal (literals_end n) (literals_live deep n) (goes_on s.Exp (level f)) false Usual (pieces f) h a z y k)

  pub live_begun : (n least deep : ℕ) (z : State) (y : Shape) → Still a z → Live body calls deep z y (none_of (goes_on s.Exp least)) Held (begun_by (in_place (suc n)) least (begun s.Exp y))
  unfolding whole
  live_begun n least deep z y k = by_form (begun s.Exp y) (shape_fits y) (shape_starts z y)
    where
      by_form : (o : Option Form) → begun_fits o ≡ true → begun_starts z y o ≡ true → Live body calls deep z y (none_of (goes_on s.Exp least)) Held (begun_by (in_place (suc n)) least o)
      by_form (Some f) h o = live_tight least a deep f (whole (in_place (suc n)) s.Exp f) z y (λ place. live_charged n deep place f z y k (is_starred f) h o)
      by_form None h o = tt

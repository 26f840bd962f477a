-- Specifiers can be completed.
use Rattle.std.proofs.Common.{◌≡◌, refl, ℕ, Bool, true, false, ◌&&◌, List, Option, Some, None}
use Rattle.c_tokens.specs.declared.token.Key.{Key}
use Rattle.c_tokens.specs.declared.token.Key.TheVariants as key
use Rattle.c_tokens.specs.declared.token.Shape.{Shape}
use Rattle.c_tokens.specs.declared.token.Shape.TheVariants as shape
use Rattle.c_forms.specs.declared.pieces.Sort.{Sort}
use Rattle.c_forms.specs.declared.pieces.Sort.TheVariants as s
use Rattle.c_forms.specs.declared.forms.Form.{Form}
use Rattle.c_forms.specs.Measures.{pieces}
use Rattle.c_forms.specs.Tokens.{begun}
use Rattle.c_reader.specs.States.{State, Kept, seen}
use Rattle.c_reader.specs.Readers.{Refuse}
use Rattle.c_reader.proofs.Sets.{both}
use Rattle.c_reader.proofs.Live.{Live, live_choose}
use Rattle.c_syntax.specs.Allowed.{may_stand}
use Rattle.c_syntax.specs.Reading.{Parts}
use Rattle.c_syntax.specs.Grammar.{body, whole, begins, is_type_word, typedef_of, spec_of, specifier_by, specifier}
use Rattle.c_alive.proofs.Kept.{Still}
use Rattle.c_alive.proofs.Phrased.{none_of, past}
use Rattle.c_alive.proofs.Rows.{Known, Ending, Able}
use Rattle.c_alive.proofs.Called.{calls}
use Rattle.c_lively.proofs.Endings.{is_spec}
use Rattle.c_lively.proofs.Wholes.{fits, starts_so, live_whole}

-- no parts of specifiers lie in place
abbrev pub no_part : Known
no_part due least = false

-- whether the form that a token begins can be completed after it
abbrev spec_fits : Sort → State → Shape → Option Form → Bool
spec_fits due z y (Some f) = fits no_part due f (pieces f) (past due 0) && starts_so f z y
spec_fits due z y None = true

spec_key : (z : State) (k : Key) → spec_fits s.Spec z (shape.Key k) (begun s.Spec (shape.Key k)) ≡ true
spec_key z key.Sizeof = refl
spec_key z _ = refl

plain_key : (z : State) (k : Key) → spec_fits s.PlainSpec z (shape.Key k) (begun s.PlainSpec (shape.Key k)) ≡ true
plain_key z key.Sizeof = refl
plain_key z _ = refl

qualifier_key : (z : State) (k : Key) → spec_fits s.Qualifier z (shape.Key k) (begun s.Qualifier (shape.Key k)) ≡ true
qualifier_key z key.Sizeof = refl
qualifier_key z _ = refl

by_key : (due : Sort) → is_spec due ≡ true → (z : State) (y : Shape) → spec_fits due z y (begun due y) ≡ true
by_key s.Spec h z (shape.Key k) = spec_key z k
by_key s.Spec h z _ = refl
by_key s.PlainSpec h z (shape.Key k) = plain_key z k
by_key s.PlainSpec h z _ = refl
by_key s.Qualifier h z (shape.Key k) = qualifier_key z k
by_key s.Qualifier h z _ = refl
by_key _ h z y = absurd (cc h)

by_name : (due : Sort) → is_spec due ≡ true → (z : State) (y : Shape) → spec_fits due z y (typedef_of y) ≡ true
by_name s.Spec h z (shape.Word w) = refl
by_name s.PlainSpec h z (shape.Word w) = refl
by_name s.Qualifier h z (shape.Word w) = refl
by_name s.Spec h z _ = refl
by_name s.PlainSpec h z _ = refl
by_name s.Qualifier h z _ = refl
by_name _ h z y = absurd (cc h)

module _ (deep : ℕ) (inner : Parts) (firm : Ending inner no_part) (a : List Kept) (due : Sort) (is_one : is_spec due ≡ true) where
  abbrev Held : {A : Type 0} → A → State → Type 0
  Held x t = Still a t

  no_parts : Able calls deep inner no_part
  no_parts = record { lives = λ due least h. absurd (cc h); leaves = λ due least h. absurd (cc h) }

  live_form : (z : State) (y : Shape) (o : Option Form) → spec_fits due z y o ≡ true → Still a z → Live body calls deep z y (none_of (past due 0)) Held (specifier_by inner due z o)
  live_form z y (Some f) h k = let r = both (fits no_part due f (pieces f) (past due 0)) (starts_so f z y) h in
      live_choose body calls deep z y (none_of (past due 0)) Held (may_stand z f) (whole inner due f) Refuse (λ _. live_whole deep inner no_part firm no_parts due f (past due 0) a r.0 z y r.1 k) (λ _. tt)
  live_form z y None h k = tt

  live_by : (z : State) (y : Shape) (b : Bool) → Still a z → Live body calls deep z y (none_of (past due 0)) Held (specifier_by inner due z (spec_of due b (seen z y)))
  live_by z y true k = live_form z y (typedef_of y) (by_name due is_one z y) k
  live_by z y false k = live_form z y (begun due y) (by_key due is_one z y) k

  pub live_specifier : (z : State) (y : Shape) → Still a z → Live body calls deep z y (none_of (past due 0)) Held (specifier inner due)
  unfolding specifier
  live_specifier z y k = λ place. live_choose body calls deep z y (none_of (past due 0)) Held (begins due (seen z y)) (specifier_by inner due z (spec_of due (is_type_word (seen z y)) (seen z y))) Refuse (λ _. live_by z y (is_type_word (seen z y)) k) (λ _. tt)

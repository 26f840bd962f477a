-- What stands in parentheses that are added can be completed.
use Rattle.std.proofs.Common.{◌≡◌, refl, ap, ◌∙◌, ℕ, ◌<◌, not, true, false, List, [], ◌∷◌, ◌++◌}
use Rattle.c_tokens.specs.declared.token.Punct.TheVariants as punct
use Rattle.c_tokens.specs.declared.token.Shape.{Shape}
use Rattle.c_tokens.specs.declared.token.Shape.TheVariants as shape
use Rattle.c_tokens.specs.ClassNumbers.{class_number}
use Rattle.c_forms.specs.declared.pieces.Sort.{Sort}
use Rattle.c_forms.specs.Sets.{Classes}
use Rattle.c_reader.specs.States.{State, Kept}
use Rattle.c_reader.specs.Readers.{Reader, Found, Of, Give, Bind, Call, below, token}
use Rattle.c_reader.proofs.Leaves.{Leaves, leaving_more}
use Rattle.c_reader.proofs.Phrases.{Finishes, Way, fin_call, fin_bind, fin_map, fin_token}
use Rattle.c_reader.proofs.Live.{Live, live_bind, live_map}
use Rattle.c_syntax.specs.Reading.{deeper}
use Rattle.c_syntax.specs.Grammar.{body, sign, standing, parenthesized}
use Rattle.c_alive.proofs.Kept.{Still, KeptBy, is_item, kept_call}
use Rattle.c_alive.proofs.Phrased.{none_of, past, phrase, opens_so, opens_if}
use Rattle.c_alive.proofs.FitRows.{is_reached}
use Rattle.c_alive.proofs.Called.{calls, live_rule}

abbrev close : ℕ
close = class_number (sign punct.RightParen)

abbrev pub and_close : List Shape
and_close = shape.Punct punct.RightParen ∷ []

module _ (due : Sort) (a : List Kept) (out : Classes) (closes : opens_so (past due 1) and_close out ≡ true) where
  abbrev Held : {A : Type 0} → A → State → Type 0
  Held x t = Still a t

  abbrev pub closing : Found → Reader Found
  closing x = Bind (token close) (λ _. Give (deeper x))

  fin_close : (x : Found) (t : State) → Still a t → Finishes body t (none_of out) Held (closing x) and_close
  fin_close x t k = fin_map body t Held (none_of out) Held (token close) (λ _. deeper x) and_close (fin_token body t (none_of out) Held (shape.Punct punct.RightParen) close refl k) (λ _ t k. k)

  pub way : Way body Held (none_of (past due 1)) (none_of out) Held closing
  way = record { tokens = and_close; opens = opens_if (past due 1) and_close out closes; finishes = λ x t k. fin_close x t k }

  pub fin_wrapped : ((z : State) → Still a z → Finishes body z (none_of (past due 1)) Held (body (Of due 1)) (phrase due)) → (z : State) → Still a z → Finishes body z (none_of out) Held (standing 17 (parenthesized due)) (phrase due ++ and_close)
  fin_wrapped F z k = fin_map body z Held (none_of out) Held (parenthesized due) (λ x. record { found = x; level = 17 }) (phrase due ++ and_close)
      (fin_bind body z Held (none_of (past due 1)) (none_of out) Held (Call (Of due 1)) closing (phrase due) and_close (fin_call body z (none_of (past due 1)) Held (Of due 1) (phrase due) (F z k)) (opens_if (past due 1) and_close out closes) (λ x t k. fin_close x t k)) (λ x t k. k)

  pub kept_one : is_item due ≡ false → (z : State) (y : Shape) → Still a z → Leaves body z y (Call (Of due 1)) Held
  kept_one h z y k d = leaving_more (below body d) d z y (Call (Of due 1)) (KeptBy (Of due 1) z y) Held (λ x t m. let r = m (ap not h) k.1 in (r.0 ∙ k.0, r.1)) (kept_call (Of due 1) z y d)

  pub live_wrapped : is_item due ≡ false → is_reached due 1 ≡ true → (deep : ℕ) → 0 < deep → (z : State) (y : Shape) → Still a z → Live body calls deep z y (none_of out) Held (standing 17 (parenthesized due))
  live_wrapped h r deep room z y k = live_map body calls deep z y Held (none_of out) (none_of out) Held (parenthesized due) (λ x. record { found = x; level = 17 }) (λ x q. q) (λ x t k. k)
      (live_bind body calls deep z y Held Held (none_of (past due 1)) (none_of out) Held (Call (Of due 1)) closing (live_rule deep room (Of due 1) (ap not h) r a z y k) (kept_one h z y k) way
      (λ x t y k. live_map body calls deep t y Held (none_of out) (none_of out) Held (token close) (λ _. deeper x) (λ x q. q) (λ _ t k. k) ((λ _ _. k), tt)))

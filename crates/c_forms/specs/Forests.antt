-- Trees as contracts see them.
use Rattle.std.specs.Prelude.{◌≡◌, List, [], ◌∷◌, ◌++◌, Option, Some, None, refl}
use Rattle.std.specs.Coded.{Coded, code_by, coded×, coded_list, coded_option}
use Rattle.std.proofs.Common.{ap, sym, ◌∙◌, append_assoc}
use Rattle.c_forms.specs.declared.forms.Form.{Form}
use Rattle.c_tokens.specs.declared.span.Span.{Span}
use Rattle.c_forms.specs.contracts.forms.Form as form
use Rattle.c_tokens.specs.contracts.span.Span as span

-- trees side by side: none, or a first one (its form, its span and its parts) and the others
pub data Forest : Type 0 where
  empty : Forest
  tree : Form → Span → Forest → Forest → Forest

-- one tree
pub record Plain : Type 0 where
  pub form : Form
  pub span : Span
  pub parts : Forest

abbrev pub listed : Forest → List Plain
listed empty = []
listed (tree f s ps rest) = record { form = f; span = s; parts = ps } ∷ listed rest

abbrev pub forest : List Plain → Forest
forest [] = empty
forest (t ∷ ts) = tree t.form t.span t.parts (forest ts)

pub listed_forest : (ts : List Plain) → listed (forest ts) ≡ ts
listed_forest [] = refl
listed_forest (t ∷ ts) = ap (λ l. t ∷ l) (listed_forest ts)

pub forest_listed : (t : Forest) → forest (listed t) ≡ t
forest_listed empty = refl
forest_listed (tree f s ps rest) = ap (λ t. tree f s ps t) (forest_listed rest)

-- a node over its parts
abbrev pub node : Form → Span → List Plain → Plain
node f s ps = record { form = f; span = s; parts = forest ps }

-- a forest as a list of marks, each node before its parts, each end of a list marked
abbrev pub spelled : Forest → List (Option (Form × Span))
spelled empty = None ∷ []
spelled (tree f s ps rest) = Some (f, s) ∷ (spelled ps ++ spelled rest)

abbrev joined : Form × Span → List Forest → List Forest
joined m [] = []
joined m (ps ∷ []) = []
joined m (ps ∷ (rest ∷ others)) = tree m.0 m.1 ps rest ∷ others

abbrev pub stack : List (Option (Form × Span)) → List Forest
stack [] = []
stack (None ∷ ms) = empty ∷ stack ms
stack (Some m ∷ ms) = joined m (stack ms)

abbrev top : List Forest → Forest
top [] = empty
top (t ∷ ts) = t

stack-spelled : (t : Forest) (ms : List (Option (Form × Span))) → stack (spelled t ++ ms) ≡ t ∷ stack ms
stack-spelled empty ms = refl
stack-spelled (tree f s ps rest) ms = ap (λ l. joined (f, s) (stack l)) (append_assoc (spelled ps) (spelled rest) ms)
    ∙ ap (joined (f, s)) (stack-spelled ps (spelled rest ++ ms))
    ∙ ap (λ l. joined (f, s) (ps ∷ l)) (stack-spelled rest ms)

append-nil : {A : Type 0} (xs : List A) → xs ++ [] ≡ xs
append-nil [] = refl
append-nil (x ∷ xs) = ap (λ l. x ∷ l) (append-nil xs)

unfoldable pub read : List (Option (Form × Span)) → Forest
read ms = top (stack ms)

pub read-spelled : (t : Forest) → read (spelled t) ≡ t
unfolding read
read-spelled t = ap (λ l. top (stack l)) (sym (append-nil (spelled t))) ∙ ap top (stack-spelled t [])

abbrev pub forest_code : Coded Forest
forest_code = code_by (List (Option (Form × Span))) (coded_list (coded_option (coded× form.the_row.coded span.the_row.coded))) spelled read read-spelled

abbrev pub plain_code : Coded Plain
plain_code = code_by (Form × (Span × Forest)) (coded× form.the_row.coded (coded× span.the_row.coded forest_code)) (λ p. (p.form, (p.span, p.parts))) (λ p. record { form = p.0; span = p.1.0; parts = p.1.1 }) (λ _. refl)

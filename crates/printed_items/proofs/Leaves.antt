-- Words and string literals are spelled by their tokens.
use Rattle.std.proofs.Common.{◌≡◌, refl, ap, sym, subst, ◌∙◌, ℕ, ◌+◌, true, List, [], ◌∷◌, Some}
use Rattle.c_tokens.specs.declared.span.Span.{Span}
use Rattle.c_tokens.specs.declared.token.Word.{Word}
use Rattle.c_tokens.specs.declared.token.Shape.{Shape}
use Rattle.c_tokens.specs.declared.token.Shape.TheVariants as shape
use Rattle.c_tokens.specs.declared.class.Class.TheVariants as class
use Rattle.c_tokens.specs.ClassNumbers.{class_number}
use Rattle.c_forms.specs.declared.pieces.Event.TheVariants as event
use Rattle.c_forms.specs.declared.pieces.Sort.{Sort}
use Rattle.c_forms.specs.declared.pieces.Sort.TheVariants as s
use Rattle.c_forms.specs.declared.forms.Form.{Form}
use Rattle.c_forms.specs.declared.forms.Form.TheVariants as form
use Rattle.c_forms.specs.Forests.{Plain, Forest, empty, tree, node}
use Rattle.c_forms.specs.Fits.{fits}
use Rattle.c_forms.specs.Measures.{is_plain, pieces}
use Rattle.c_forms.specs.Places.{stands}
use Rattle.c_reader.specs.States.{State, happens, number_of}
use Rattle.c_reader.specs.States as States
use Rattle.c_reader.specs.Tokens.{Spot, step, turned, raw_at, class_at}
use Rattle.c_syntax.specs.Reading.{spanned}
use Rattle.c_syntax.specs.Spells.{Spelling, At, AnyWord, after_name}
use Rattle.c_layout.specs.Spelled.{tokens}
use Rattle.spelled_scopes.specs.Agreement.{Alike}
use Rattle.spelled_trees.specs.Effects.{is_plain_sort}
use Rattle.spelled_trees.proofs.Scopes.{Scopes}
use Rattle.ready_rows.specs.Printed.{Run}
use Rattle.ready_rows.proofs.Ready.{the_tree}
use Rattle.ready_rows.proofs.Rows.{Found}
use Rattle.ready_rows.proofs.Standing.{Ready, Follows, Made, Does, Notes, Lists, IsValueWord}
use Rattle.ready_expressions.proofs.Expressions.{seen_value}
use Rattle.ready_expressions.proofs.Heads.{id_form, literal_form}
use Rattle.ready_expressions.proofs.Declarators.{declared_stands}
use Rattle.scoped_spelled.proofs.Members.{enumerated_stands}
use Rattle.scoped_spelled.proofs.Params.{parameter_stands}

same_word : (v w : Word) → form.Id v ≡ form.Id w → v ≡ w
same_word v w e = cc e

-- a word that stands where its tree does
record Here (w : List Shape) (f : Form) (sp : Span) (ps : Forest) (i : Spot) (m : ℕ) : Type 0 where
  pub word : Word
  pub its : f ≡ form.Id word
  pub raw : raw_at w i.place ≡ shape.Word word
  pub alike : Alike (the_tree f sp ps) (node (form.Id word) (spanned i.place (i.place + 1)) [])
  pub place : i.place + 1 ≡ m

word_of : (w : List Shape) (word : Word) (sp : Span) (ps : Forest) (i : Spot) (m : ℕ) → fits (pieces (form.Id word)) ps ≡ true → Run w i.place (tokens (the_tree (form.Id word) sp ps)) m → Here w (form.Id word) sp ps i m
word_of w word sp (tree g gp qs rest) i m t run = absurd (cc t)
word_of w word sp empty i m t run = record { word = word; its = refl; raw = run.0; alike = (refl, refl); place = run.1 }

word_here : (w : List Shape) (f : Form) (sp : Span) (ps : Forest) (i : Spot) (m : ℕ) → is_plain f ≡ true → stands f s.Id ≡ true → fits (pieces f) ps ≡ true → Run w i.place (tokens (the_tree f sp ps)) m → Here w f sp ps i m
word_here w f sp ps i m p e t run = let o = id_form f p e in subst (λ f. fits (pieces f) ps ≡ true → Run w i.place (tokens (the_tree f sp ps)) m → Here w f sp ps i m) (sym o.1) (word_of w o.0 sp ps i m) t run

module _ (w : List Shape) (f : Form) (sp : Span) (ps : Forest) (i : Spot) (m : ℕ) where
  -- the tree that the token spells
  abbrev its_tree : Here w f sp ps i m → Plain
  its_tree h = node (form.Id h.word) (spanned i.place (i.place + 1)) []

  any_word : (h : Here w f sp ps i m) → AnyWord w (its_tree h) i
  any_word h = (h.word, (h.raw, refl))

  -- a word that is no type
  value : (h : Here w f sp ps i m) → IsValueWord i.state (the_tree f sp ps) → class_at w i ≡ class_number class.Word
  value h v = ap (λ x. States.class i.state x) h.raw ∙ seen_value i.state h.word (v h.word h.its)

  noted_number : (h : Here w f sp ps i m) (word : Word) → f ≡ form.Id word → number_of (raw_at w i.place) ≡ word.0
  noted_number h word e = ap number_of h.raw ∙ ap (λ (word : Word). word.0) (same_word h.word word (sym h.its ∙ e))

  notes : (h : Here w f sp ps i m) → Notes (the_tree f sp ps) i.state (after_name w i).state
  notes h = record { entries = refl; aside = refl; typed = refl; typedef = refl; due = refl; name = λ word e. ap Some (noted_number h word e); near = refl }

  lists : (h : Here w f sp ps i m) → Lists (the_tree f sp ps) i.state (happens event.DeclareValue (after_name w i).state)
  lists h = record { entries = λ word e. ap (λ n. States.AsValue n ∷ i.state.entries) (noted_number h word e); aside = refl; typed = refl }

-- ---- where they stand

module _ (levels : Type 0) (deeper inner : Spelling) (w : List Shape) (scopes : Scopes (At levels deeper inner w)) where
  abbrev pub Stood : Sort → ℕ → Plain → Spot → ℕ → Type 0
  Stood due least t i m = Found Ready Follows Does w (At levels deeper inner w) due least t i m

  pub stood : (due : Sort) (least : ℕ) (t v : Plain) (i j : Spot) (m : ℕ) → is_plain_sort due ≡ true → At levels deeper inner w due least v i j → Alike t v → j.place ≡ m → Made due t i.state j.state → Stood due least t i m
  stood due least t v i j m p A a e d = record { tree = v; last = j; spelled = A; alike = a; place = e; does = record { made = d; scoped = (scopes due least v i j A p).0 } }

  pub id_stood : (least : ℕ) (f : Form) (sp : Span) (ps : Forest) (i : Spot) (m : ℕ) → is_plain f ≡ true → stands f s.Id ≡ true → fits (pieces f) ps ≡ true → Run w i.place (tokens (the_tree f sp ps)) m → Stood s.Id least (the_tree f sp ps) i m
  id_stood least f sp ps i m p e t run = let h = word_here w f sp ps i m p e t run in stood s.Id least (the_tree f sp ps) (its_tree w f sp ps i m h) i (step i) m refl (any_word w f sp ps i m h, refl) h.alike h.place refl

  pub declared_stood : (least : ℕ) (f : Form) (sp : Span) (ps : Forest) (i : Spot) (m : ℕ) → is_plain f ≡ true → stands f s.DeclaredId ≡ true → fits (pieces f) ps ≡ true → Run w i.place (tokens (the_tree f sp ps)) m → IsValueWord i.state (the_tree f sp ps) → Stood s.DeclaredId least (the_tree f sp ps) i m
  declared_stood least f sp ps i m p e t run v = let h = word_here w f sp ps i m p (declared_stands f p e) t run in
      stood s.DeclaredId least (the_tree f sp ps) (its_tree w f sp ps i m h) i (after_name w i) m refl ((any_word w f sp ps i m h, value w f sp ps i m h v), refl) h.alike h.place (notes w f sp ps i m h)

  pub parameter_stood : (least : ℕ) (f : Form) (sp : Span) (ps : Forest) (i : Spot) (m : ℕ) → is_plain f ≡ true → stands f s.ParameterId ≡ true → fits (pieces f) ps ≡ true → Run w i.place (tokens (the_tree f sp ps)) m → IsValueWord i.state (the_tree f sp ps) → Stood s.ParameterId least (the_tree f sp ps) i m
  parameter_stood least f sp ps i m p e t run v = let h = word_here w f sp ps i m p (parameter_stands f p e) t run in
      stood s.ParameterId least (the_tree f sp ps) (its_tree w f sp ps i m h) i (turned (happens event.DeclareValue) (after_name w i)) m refl ((any_word w f sp ps i m h, value w f sp ps i m h v), refl) h.alike h.place (lists w f sp ps i m h)

  pub enumerator_stood : (least : ℕ) (f : Form) (sp : Span) (ps : Forest) (i : Spot) (m : ℕ) → is_plain f ≡ true → stands f s.EnumeratorId ≡ true → fits (pieces f) ps ≡ true → Run w i.place (tokens (the_tree f sp ps)) m → Stood s.EnumeratorId least (the_tree f sp ps) i m
  enumerator_stood least f sp ps i m p e t run = let h = word_here w f sp ps i m p (enumerated_stands f p e) t run in
      stood s.EnumeratorId least (the_tree f sp ps) (its_tree w f sp ps i m h) i (after_name w i) m refl (any_word w f sp ps i m h, refl) h.alike h.place (notes w f sp ps i m h)

  literal_at : (least : ℕ) (word : Word) (sp : Span) (ps : Forest) (i : Spot) (m : ℕ) → fits (pieces (form.Literal word)) ps ≡ true → Run w i.place (tokens (the_tree (form.Literal word) sp ps)) m → Ready s.Literal (the_tree (form.Literal word) sp ps) i.state → Stood s.Literal least (the_tree (form.Literal word) sp ps) i m
  literal_at least word sp (tree g gp qs rest) i m t run r = absurd (cc t)
  literal_at least word sp empty i m t run r = stood s.Literal least (the_tree (form.Literal word) sp empty) (node (form.Literal word) (spanned i.place (i.place + 1)) []) i (step i) m refl ((word, (run.0, refl)), refl) (refl, refl) run.1
      (record { scoped = refl; aside = refl }, r.0)

  pub literal_stood : (least : ℕ) (f : Form) (sp : Span) (ps : Forest) (i : Spot) (m : ℕ) → is_plain f ≡ true → stands f s.Literal ≡ true → fits (pieces f) ps ≡ true → Run w i.place (tokens (the_tree f sp ps)) m → Ready s.Literal (the_tree f sp ps) i.state → Stood s.Literal least (the_tree f sp ps) i m
  literal_stood least f sp ps i m p e t run r = let o = literal_form f p e in
      subst (λ f. fits (pieces f) ps ≡ true → Run w i.place (tokens (the_tree f sp ps)) m → Ready s.Literal (the_tree f sp ps) i.state → Stood s.Literal least (the_tree f sp ps) i m) (sym o.1) (literal_at least o.0 sp ps i m) t run r

-- The words that a function's body begins with are only declared.
use Rattle.std.proofs.Common.{◌≡◌, refl, ap, sym, ◌∙◌, Bool, true, false, if◌then◌else◌, List, [], ◌∷◌, ◌++◌, Option, Some, None}
use Rattle.c_tokens.specs.declared.token.Word.{Word}
use Rattle.c_forms.specs.declared.forms.Form.{Form}
use Rattle.c_forms.specs.declared.forms.Form.TheVariants as form
use Rattle.c_forms.specs.declared.forms.DeclaratorForm.TheVariants as declarator
use Rattle.c_forms.specs.declared.forms.ParamsForm.TheVariants as params
use Rattle.c_forms.specs.Forests.{Forest, empty, tree}
use Rattle.c_forms.specs.Rules.{is_name, after_first}
use Rattle.c_reader.specs.States.{Entry}
use Rattle.scope_tables.specs.declared.table.WordClass.{WordClass}
use Rattle.scope_tables.specs.declared.table.WordClass.TheVariants.{Value}
use Rattle.scope_meanings.specs.declared.meaning.NameUse.{NameUse}
use Rattle.scope_meanings.specs.declared.meaning.NameUse.TheVariants as naming
use Rattle.scope_meanings.specs.declared.meaning.Meaning.{Meaning}
use Rattle.scope_meanings.specs.declared.meaning.Meaning.TheVariants as means
use Rattle.scope_meanings.specs.declared.meaning.Name.{Name}
use Rattle.scope_meanings.specs.Meanings.{meaning, inside, declares, name_in}
use Rattle.scopes.specs.declared.event.Event.{Event}
use Rattle.scopes.specs.declared.event.Event.TheVariants.{Declare}
use Rattle.scopes.specs.Events.{declared_as, redeclared, words, words_by, words_of_params, beside_at, beside_name}
use Rattle.scopes.specs.Settling.{Scoped, settled}
use Rattle.spelled_scopes.specs.Meant.{frames, after_words}
use Rattle.spelled_scopes.proofs.Frames.{entry_frames, settled_on, words_on}

-- ---- whatever holds of no events, of one declaration, and of events one after the other

module _ (P : List Event → Type 0) (none : P []) (one : (word : Word) (k : WordClass) → P (Declare word k ∷ [])) (join : (vs ws : List Event) → P vs → P ws → P (vs ++ ws)) where
  pub by_name : (c : Option WordClass) (n : Option Name) → P (declared_as c n)
  by_name (Some k) (Some name) = one name.word k
  by_name (Some k) None = none
  by_name None n = none

  by_word : (u : NameUse) (word : Word) → P (redeclared u word)
  by_word naming.CheckedAndDeclared word = one word Value
  by_word u word = none

  by_meaning : (m : Meaning) (u : NameUse) (c : Option WordClass) (ps : Forest) (inner : List Event) → P inner → P (words_by m u c ps inner)
  by_meaning (means.Identifier word) u c ps inner p = by_word u word
  by_meaning means.Parts u c ps inner p = join inner (declared_as c (name_in ps)) p (by_name c (name_in ps))
  by_meaning m u c ps inner p = none

  by_words : (u : NameUse) (t : Forest) → P (words u t)
  by_words u empty = none
  by_words u (tree f sp ps rest) = join (words_by (meaning f) u (declares f u) ps (words (inside f u ps) ps)) (words u rest) (by_meaning (meaning f) u (declares f u) ps (words (inside f u ps) ps) (by_words (inside f u ps) ps)) (by_words u rest)

  by_params : (t : Forest) → P (words_of_params t)
  by_params (tree (form.Params params.Ids) sp ps rest) = by_words naming.CheckedAndDeclared ps
  by_params (tree (form.Params f) sp ps rest) = by_words naming.Nothing ps
  by_params t = none

  by_choice : (b : Bool) (vs ws : List Event) → P vs → P ws → P (if b then vs else ws)
  by_choice true vs ws p q = p
  by_choice false vs ws p q = q

  by_form : (f : Form) (ps : Forest) (inner : List Event) → P inner → P (beside_at f ps inner)
  by_form (form.Declarator declarator.FunctionOf) ps inner p = by_choice (is_name ps) (words_of_params (after_first ps)) inner (by_params (after_first ps)) p
  by_form (form.Declarator f) ps inner p = p
  by_form f ps inner p = none

  pub by_beside : (t : Forest) → P (beside_name t)
  by_beside empty = none
  by_beside (tree f sp ps rest) = join (beside_at f ps (beside_name ps)) (beside_name rest) (by_form f ps (beside_name ps) (by_beside ps)) (by_beside rest)

-- ---- nothing but declarations

abbrev pub Only : List Event → Type 0
Only ws = (es : List Entry) → settled ws (frames es) ≡ Scoped (frames (after_words ws es))

only_on : (vs ws : List Event) → Only vs → Only ws → Only (vs ++ ws)
only_on vs ws p q = λ es. settled_on vs ws (frames es) (frames (after_words vs es)) (p es) ∙ q (after_words vs es) ∙ ap (λ es. Scoped (frames es)) (sym (words_on vs ws es))

only_one : (word : Word) (k : WordClass) → Only (Declare word k ∷ [])
only_one word k = λ es. ap Scoped (sym (entry_frames k word.0 es))

pub only_words : (u : NameUse) (t : Forest) → Only (words u t)
only_words u t = by_words Only (λ es. refl) only_one only_on u t

pub only_beside : (t : Forest) → Only (beside_name t)
only_beside t = by_beside Only (λ es. refl) only_one only_on t

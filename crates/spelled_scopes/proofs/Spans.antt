-- Whether a tree is scoped does not depend on its spans.
use Rattle.std.proofs.Common.{◌≡◌, ◌≢◌, refl, ap, sym, ◌∙◌, Bool, true, false, ◌||◌, not, if◌then◌else◌, List, [], ◌∷◌, ◌++◌, Option, Some, None}
use Rattle.c_tokens.specs.declared.span.Span.{Span}
use Rattle.c_tokens.specs.declared.token.Word.{Word}
use Rattle.c_forms.specs.declared.forms.Form.{Form}
use Rattle.c_forms.specs.declared.forms.Form.TheVariants as form
use Rattle.c_forms.specs.declared.forms.DeclaratorForm.TheVariants as declarator
use Rattle.c_forms.specs.declared.forms.ParamsForm.TheVariants as params
use Rattle.c_forms.specs.Forests.{Plain, Forest, empty, tree}
use Rattle.c_forms.specs.Rules.{in_first, after_first, is_name}
use Rattle.c_forms.specs.Rules as Rules
use Rattle.scope_tables.specs.declared.table.WordClass.{WordClass}
use Rattle.scope_tables.specs.declared.table.WordClass.TheVariants.{Value}
use Rattle.scope_tables.specs.Frames.{Frame, class_named, class_of, entered, left, declared}
use Rattle.scope_meanings.specs.declared.meaning.NameUse.{NameUse}
use Rattle.scope_meanings.specs.declared.meaning.NameUse.TheVariants as naming
use Rattle.scope_meanings.specs.declared.meaning.Meaning.{Meaning}
use Rattle.scope_meanings.specs.declared.meaning.Meaning.TheVariants as means
use Rattle.scope_meanings.specs.declared.meaning.Name.{Name}
use Rattle.scope_meanings.specs.Meanings.{meaning, inside, declares, name_in, name_at, or_next, has_type, has_typedef, is_typedef, checked_if, in_param}
use Rattle.scopes.specs.declared.event.Event.{Event}
use Rattle.scopes.specs.declared.event.Event.TheVariants.{Enter, Leave, Must, Declare}
use Rattle.scopes.specs.Events.{in_order, scope, at_identifier, checked, declared_as, words, words_by, words_of_params, beside_at, beside_name, by_meaning, at_node, each, events, function, name_checked, body}
use Rattle.scopes.specs.Settling.{Settled, Scoped, Clashes, settled, is_same}
use Rattle.spelled_scopes.specs.Agreement.{no_span, unspanned, Alike}
use Rattle.spelled_scopes.proofs.Words.{by_beside}

-- ---- events without spans

abbrev bare : List Event → List Event
bare [] = []
bare (Must word k sp ∷ es) = Must word k no_span ∷ bare es
bare (e ∷ es) = e ∷ bare es

bare_on : (xs ys : List Event) → bare (xs ++ ys) ≡ bare xs ++ bare ys
bare_on [] ys = refl
bare_on (Must word k sp ∷ xs) ys = ap (λ l. Must word k no_span ∷ l) (bare_on xs ys)
bare_on (Enter ∷ xs) ys = ap (λ l. Enter ∷ l) (bare_on xs ys)
bare_on (Leave ∷ xs) ys = ap (λ l. Leave ∷ l) (bare_on xs ys)
bare_on (Declare word k ∷ xs) ys = ap (λ l. Declare word k ∷ l) (bare_on xs ys)

chosen : (c : Bool) (x y stop other : Settled) (gs : List Frame) → stop ≢ Scoped gs → (x ≡ Scoped gs → y ≡ Scoped gs) → (if c then x else stop) ≡ Scoped gs → (if c then y else other) ≡ Scoped gs
chosen true x y stop other gs n f e = f e
chosen false x y stop other gs n f e = absurd (n e)

to_bare : (es : List Event) (fs gs : List Frame) → settled es fs ≡ Scoped gs → settled (bare es) fs ≡ Scoped gs
to_bare [] fs gs e = e
to_bare (Enter ∷ es) fs gs e = to_bare es (entered fs) gs e
to_bare (Leave ∷ es) fs gs e = to_bare es (left fs) gs e
to_bare (Declare word k ∷ es) fs gs e = to_bare es (declared word.0 k fs) gs e
to_bare (Must word k sp ∷ es) fs gs e = chosen (is_same k (class_of word.0 fs)) (settled es fs) (settled (bare es) fs) (Clashes word k (class_of word.0 fs) sp) (Clashes word k (class_of word.0 fs) no_span) gs (λ c. absurd (cc c)) (to_bare es fs gs) e

from_bare : (es : List Event) (fs gs : List Frame) → settled (bare es) fs ≡ Scoped gs → settled es fs ≡ Scoped gs
from_bare [] fs gs e = e
from_bare (Enter ∷ es) fs gs e = from_bare es (entered fs) gs e
from_bare (Leave ∷ es) fs gs e = from_bare es (left fs) gs e
from_bare (Declare word k ∷ es) fs gs e = from_bare es (declared word.0 k fs) gs e
from_bare (Must word k sp ∷ es) fs gs e = chosen (is_same k (class_of word.0 fs)) (settled (bare es) fs) (settled es fs) (Clashes word k (class_of word.0 fs) no_span) (Clashes word k (class_of word.0 fs) sp) gs (λ c. absurd (cc c)) (from_bare es fs gs) e

-- ---- what is asked of trees

in_first_bare : (t : Forest) → in_first (unspanned t) ≡ unspanned (in_first t)
in_first_bare empty = refl
in_first_bare (tree f sp ps rest) = refl

after_first_bare : (t : Forest) → after_first (unspanned t) ≡ unspanned (after_first t)
after_first_bare empty = refl
after_first_bare (tree f sp ps rest) = refl

has_type_bare : (t : Forest) → has_type (unspanned t) ≡ has_type t
has_type_bare empty = refl
has_type_bare (tree f sp ps rest) = ap (λ b. Rules.is_type f || b) (has_type_bare rest)

has_typedef_bare : (t : Forest) → has_typedef (unspanned t) ≡ has_typedef t
has_typedef_bare empty = refl
has_typedef_bare (tree f sp ps rest) = ap (λ b. is_typedef f || b) (has_typedef_bare rest)

first_typed : (t : Forest) → has_type (in_first (unspanned t)) ≡ has_type (in_first t)
first_typed t = ap has_type (in_first_bare t) ∙ has_type_bare (in_first t)

first_typedef : (t : Forest) → has_typedef (in_first (unspanned t)) ≡ has_typedef (in_first t)
first_typedef t = ap has_typedef (in_first_bare t) ∙ has_typedef_bare (in_first t)

is_name_at : (f : Form) (sp sp' : Span) (ps ps' rest rest' : Forest) → is_name (tree f sp ps rest) ≡ is_name (tree f sp' ps' rest')
is_name_at (form.Declarator declarator.Named) sp sp' ps ps' rest rest' = refl
is_name_at f sp sp' ps ps' rest rest' = refl

is_name_bare : (t : Forest) → is_name (unspanned t) ≡ is_name t
is_name_bare empty = refl
is_name_bare (tree f sp ps rest) = is_name_at f no_span sp (unspanned ps) ps (unspanned rest) rest

inside_bare : (f : Form) (u : NameUse) (ps : Forest) → inside f u (unspanned ps) ≡ inside f u ps
inside_bare form.Decl u ps = ap (λ b. naming.Declared (class_named b) (not (has_type (in_first (unspanned ps))))) (first_typedef ps) ∙ ap (λ b. naming.Declared (class_named (has_typedef (in_first ps))) (not b)) (first_typed ps)
inside_bare form.Member u ps = ap (λ b. checked_if (not b)) (first_typed ps)
inside_bare form.Param u ps = ap in_param (first_typed ps)
inside_bare f u ps = refl

-- ---- names

abbrev bare_name : Option Name → Option Name
bare_name (Some n) = Some (record { word = n.word; span = no_span })
bare_name None = None

or_next_bare : (n m : Option Name) → bare_name (or_next n m) ≡ or_next (bare_name n) (bare_name m)
or_next_bare (Some n) m = refl
or_next_bare None m = refl

name_at_bare : (f : Form) (sp : Span) (n m : Option Name) → bare_name n ≡ m → bare_name (name_at f sp n) ≡ name_at f no_span m
name_at_bare (form.Id word) sp n m e = refl
name_at_bare (form.Declarator f) sp n m e = e
name_at_bare f sp n m e = refl

name_bare : (t : Forest) → bare_name (name_in t) ≡ name_in (unspanned t)
name_bare empty = refl
name_bare (tree f sp ps rest) = or_next_bare (name_at f sp (name_in ps)) (name_in rest) ∙ ap (λ n. or_next n (bare_name (name_in rest))) (name_at_bare f sp (name_in ps) (name_in (unspanned ps)) (name_bare ps))
    ∙ ap (λ n. or_next (name_at f no_span (name_in (unspanned ps))) n) (name_bare rest)

declared_bare : (k : Option WordClass) (n : Option Name) → declared_as k (bare_name n) ≡ declared_as k n
declared_bare (Some k) (Some n) = refl
declared_bare (Some k) None = refl
declared_bare None n = refl

declared_in : (k : Option WordClass) (ps : Forest) → declared_as k (name_in (unspanned ps)) ≡ declared_as k (name_in ps)
declared_in k ps = ap (declared_as k) (sym (name_bare ps)) ∙ declared_bare k (name_in ps)

-- ---- words

words_by_bare : (m : Meaning) (u : NameUse) (k : Option WordClass) (ps : Forest) (inner others : List Event) → inner ≡ others → words_by m u k (unspanned ps) inner ≡ words_by m u k ps others
words_by_bare (means.Identifier word) u k ps inner others e = refl
words_by_bare means.Parts u k ps inner others e = ap (λ l. l ++ declared_as k (name_in (unspanned ps))) e ∙ ap (λ l. others ++ l) (declared_in k ps)
words_by_bare m u k ps inner others e = refl

words_bare : (u : NameUse) (t : Forest) → words u (unspanned t) ≡ words u t
words_bare u empty = refl
words_bare u (tree f sp ps rest) =
    ap (λ l. words_by (meaning f) u (declares f u) (unspanned ps) (words (inside f u (unspanned ps)) (unspanned ps)) ++ l) (words_bare u rest)
    ∙ ap (λ l. l ++ words u rest) (words_by_bare (meaning f) u (declares f u) ps (words (inside f u (unspanned ps)) (unspanned ps)) (words (inside f u ps) ps)
    (ap (λ u. words u (unspanned ps)) (inside_bare f u ps) ∙ words_bare (inside f u ps) ps))

params_bare : (t : Forest) → words_of_params (unspanned t) ≡ words_of_params t
params_bare (tree (form.Params params.Ids) sp ps rest) = words_bare naming.CheckedAndDeclared ps
params_bare (tree (form.Params f) sp ps rest) = words_bare naming.Nothing ps
params_bare (tree f sp ps rest) = refl
params_bare empty = refl

chosen_words : (b c : Bool) (v x y z : List Event) → b ≡ c → v ≡ x → y ≡ z → (if b then v else y) ≡ (if c then x else z)
chosen_words b c v x y z p q r = ap (λ b. if b then v else y) p ∙ ap (λ v. if c then v else y) q ∙ ap (λ y. if c then x else y) r

beside_at_bare : (f : Form) (ps : Forest) (inner others : List Event) → inner ≡ others → beside_at f (unspanned ps) inner ≡ beside_at f ps others
beside_at_bare (form.Declarator declarator.FunctionOf) ps inner others e = chosen_words (is_name (unspanned ps)) (is_name ps) _ _ inner others (is_name_bare ps) (ap words_of_params (after_first_bare ps) ∙ params_bare (after_first ps)) e
beside_at_bare (form.Declarator f) ps inner others e = e
beside_at_bare f ps inner others e = refl

beside_bare : (t : Forest) → beside_name (unspanned t) ≡ beside_name t
beside_bare empty = refl
beside_bare (tree f sp ps rest) = ap (λ l. l ++ beside_name (unspanned rest)) (beside_at_bare f ps (beside_name (unspanned ps)) (beside_name ps) (beside_bare ps)) ∙ ap (λ l. beside_at f ps (beside_name ps) ++ l) (beside_bare rest)

-- ---- events

bare_word : (k : Option WordClass) (n : Option Name) → bare (declared_as k n) ≡ declared_as k n
bare_word (Some k) (Some n) = refl
bare_word (Some k) None = refl
bare_word None n = refl

bare_beside : (t : Forest) → bare (beside_name t) ≡ beside_name t
bare_beside t = by_beside (λ ws. bare ws ≡ ws) refl (λ word k. refl) (λ vs ws p q. bare_on vs ws ∙ ap (λ l. l ++ bare ws) p ∙ ap (λ l. vs ++ l) q) t

abbrev all_bare : List (List Event) → List (List Event)
all_bare [] = []
all_bare (es ∷ others) = bare es ∷ all_bare others

bare_in_order : (all : List (List Event)) → bare (in_order all) ≡ in_order (all_bare all)
bare_in_order [] = refl
bare_in_order (es ∷ others) = bare_on es (in_order others) ∙ ap (λ l. bare es ++ l) (bare_in_order others)

bare_scope : (es : List Event) → bare (scope es) ≡ scope (bare es)
bare_scope es = ap (λ l. Enter ∷ l) (bare_on es (Leave ∷ []))

bare_identifier : (u : NameUse) (word : Word) (sp : Span) → bare (at_identifier u word sp) ≡ at_identifier u word no_span
bare_identifier naming.Checked word sp = refl
bare_identifier naming.CheckedAndDeclared word sp = refl
bare_identifier u word sp = refl

bare_checked : (n : Option Name) → bare (checked n) ≡ checked (bare_name n)
bare_checked (Some n) = refl
bare_checked None = refl

bare_choice : (b c : Bool) (x y : List Event) → b ≡ c → bare x ≡ y → bare (if b then [] else x) ≡ (if c then [] else y)
bare_choice b true x y p q = ap (λ b. bare (if b then [] else x)) p
bare_choice b false x y p q = ap (λ b. bare (if b then [] else x)) p ∙ q

bare_name_checked : (ps : Forest) → bare (name_checked ps) ≡ name_checked (unspanned ps)
bare_name_checked ps = bare_choice (has_type (in_first ps)) (has_type (in_first (unspanned ps))) (checked (name_in ps)) (checked (name_in (unspanned ps))) (sym (first_typed ps)) (bare_checked (name_in ps) ∙ ap checked (name_bare ps))

bare_declared : (ps : Forest) → bare (declared_as (Some Value) (name_in ps)) ≡ declared_as (Some Value) (name_in (unspanned ps))
bare_declared ps = bare_word (Some Value) (name_in ps) ∙ sym (declared_in (Some Value) ps)

bare_body : (ps : Forest) (others : List (List Event)) → bare (body ps others) ≡ body (unspanned ps) (all_bare others)
bare_body ps others = bare_scope (beside_name ps ++ in_order others) ∙ ap scope (bare_on (beside_name ps) (in_order others) ∙ ap (λ l. l ++ bare (in_order others)) (bare_beside ps ∙ sym (beside_bare ps)) ∙ ap (λ l. beside_name (unspanned ps) ++ l) (bare_in_order others))

bare_function : (ps : Forest) (parts : List (List Event)) → bare (function ps parts) ≡ function (unspanned ps) (all_bare parts)
bare_function ps [] = refl
bare_function ps (specs ∷ []) = refl
bare_function ps (specs ∷ (names ∷ others)) =
    let last : List Event = declared_as (Some Value) (name_in ps) ++ body ps others in
    bare_on specs (name_checked ps ++ (names ++ last)) ∙ ap (λ l. bare specs ++ l) (
    bare_on (name_checked ps) (names ++ last) ∙ ap (λ l. l ++ bare (names ++ last)) (bare_name_checked ps) ∙ ap (λ l. name_checked (unspanned ps) ++ l) (
    bare_on names last ∙ ap (λ l. bare names ++ l) (
    bare_on (declared_as (Some Value) (name_in ps)) (body ps others) ∙ ap (λ l. l ++ bare (body ps others)) (bare_declared ps) ∙ ap (λ l. declared_as (Some Value) (name_in (unspanned ps)) ++ l) (bare_body ps others))))

bare_by : (m : Meaning) (u : NameUse) (k : Option WordClass) (sp : Span) (ps : Forest) (parts : List (List Event)) → bare (by_meaning m u k sp ps parts) ≡ by_meaning m u k no_span (unspanned ps) (all_bare parts)
bare_by means.Nothing u k sp ps parts = refl
bare_by (means.Use word wanted) u k sp ps parts = refl
bare_by (means.Identifier word) u k sp ps parts = bare_identifier u word sp
bare_by means.Scope u k sp ps parts = bare_scope (in_order parts) ∙ ap scope (bare_in_order parts)
bare_by means.Function u k sp ps parts = bare_function ps parts
bare_by means.Parts u k sp ps parts = bare_on (in_order parts) (declared_as k (name_in ps)) ∙ ap (λ l. l ++ bare (declared_as k (name_in ps))) (bare_in_order parts) ∙ ap (λ l. in_order (all_bare parts) ++ l) (bare_word k (name_in ps) ∙ sym (declared_in k ps))

bare_each : (u : NameUse) (t : Forest) → all_bare (each u t) ≡ each u (unspanned t)
bare_each u empty = refl
bare_each u (tree f sp ps rest) =
    ap (λ e. e ∷ all_bare (each u rest)) (bare_by (meaning f) u (declares f u) sp ps (each (inside f u ps) ps)
    ∙ ap (by_meaning (meaning f) u (declares f u) no_span (unspanned ps)) (bare_each (inside f u ps) ps ∙ ap (λ u. each u (unspanned ps)) (sym (inside_bare f u ps))))
    ∙ ap (λ l. at_node u f no_span (unspanned ps) (each (inside f u (unspanned ps)) (unspanned ps)) ∷ l) (bare_each u rest)

bare_events : (t : Plain) → bare (events t) ≡ events (record { form = t.form; span = no_span; parts = unspanned t.parts })
bare_events t = bare_by (meaning t.form) naming.Nothing (declares t.form naming.Nothing) t.span t.parts (each (inside t.form naming.Nothing t.parts) t.parts)
    ∙ ap (by_meaning (meaning t.form) naming.Nothing (declares t.form naming.Nothing) no_span (unspanned t.parts)) (bare_each (inside t.form naming.Nothing t.parts) t.parts ∙ ap (λ u. each u (unspanned t.parts)) (sym (inside_bare t.form naming.Nothing t.parts)))

-- What is scoped is so with other spans.
pub scoped_alike : (t v : Plain) (fs gs : List Frame) → Alike t v → settled (events t) fs ≡ Scoped gs → settled (events v) fs ≡ Scoped gs
scoped_alike t v fs gs a e =
    let same : bare (events t) ≡ bare (events v) = bare_events t ∙ ap (λ f. events (record { form = f; span = no_span; parts = unspanned t.parts })) a.0
    ∙ ap (λ ps. events (record { form = v.form; span = no_span; parts = ps })) a.1 ∙ sym (bare_events v) in
    from_bare (events v) fs gs (ap (λ es. settled es fs) (sym same) ∙ to_bare (events t) fs gs e)

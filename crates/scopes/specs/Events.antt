-- What trees ask of words and what they declare, in source order (ISO/IEC 9899:1990, 6.1.2.1 and 6.5.6).
use Rattle.std.specs.Prelude.{List, [], ◌∷◌, ◌++◌, Option, Some, None, if◌then◌else◌}
use Rattle.c_tokens.specs.declared.span.Span.{Span}
use Rattle.c_tokens.specs.declared.token.Word.{Word}
use Rattle.c_forms.specs.declared.forms.Form.{Form}
use Rattle.c_forms.specs.declared.forms.Form.TheVariants as form
use Rattle.c_forms.specs.declared.forms.DeclaratorForm.TheVariants as declarator
use Rattle.c_forms.specs.declared.forms.ParamsForm.TheVariants as params
use Rattle.c_forms.specs.Forests.{Plain, Forest, empty, tree}
use Rattle.c_forms.specs.Rules.{in_first, after_first, is_name}
use Rattle.scope_tables.specs.declared.table.WordClass.{WordClass}
use Rattle.scope_tables.specs.declared.table.WordClass.TheVariants.{Value}
use Rattle.scopes.specs.declared.event.Event.{Event}
use Rattle.scopes.specs.declared.event.Event.TheVariants.{Enter, Leave, Must, Declare}
use Rattle.scope_meanings.specs.declared.meaning.NameUse.{NameUse}
use Rattle.scope_meanings.specs.declared.meaning.NameUse.TheVariants as naming
use Rattle.scope_meanings.specs.declared.meaning.Meaning.{Meaning}
use Rattle.scope_meanings.specs.declared.meaning.Meaning.TheVariants as means
use Rattle.scope_meanings.specs.declared.meaning.Name.{Name}
use Rattle.scope_meanings.specs.Meanings.{meaning, inside, declares, has_type, name_in}

abbrev pub in_order : List (List Event) → List Event
in_order [] = []
in_order (first ∷ others) = first ++ in_order others

abbrev pub scope : List Event → List Event
scope inner = Enter ∷ (inner ++ Leave ∷ [])

-- ---- names

-- an identifier that is used so
abbrev pub at_identifier : NameUse → Word → Span → List Event
at_identifier naming.Checked word s = Must word Value s ∷ []
at_identifier naming.CheckedAndDeclared word s = Must word Value s ∷ Declare word Value ∷ []
at_identifier _ word s = []

abbrev pub checked : Option Name → List Event
checked (Some name) = Must name.word Value name.span ∷ []
checked None = []

abbrev pub declared : WordClass → Option Name → List Event
declared class (Some name) = Declare name.word class ∷ []
declared class None = []

abbrev pub declared_as : Option WordClass → Option Name → List Event
declared_as (Some class) name = declared class name
declared_as None name = []

-- ---- words of parameters

abbrev pub redeclared : NameUse → Word → List Event
redeclared naming.CheckedAndDeclared word = Declare word Value ∷ []
redeclared _ word = []

abbrev pub words_by : Meaning → NameUse → Option WordClass → Forest → List Event → List Event
words_by (means.Identifier word) used class ps inner = redeclared used word
words_by means.Parts used class ps inner = inner ++ declared_as class (name_in ps)
words_by _ used class ps inner = []

-- what these declare outside of scopes of their own
abbrev pub words : NameUse → Forest → List Event
words used empty = []
words used (tree f s ps rest) = words_by (meaning f) used (declares f used) ps (words (inside f used ps) ps) ++ words used rest

abbrev pub words_of : NameUse → Plain → List Event
words_of used t = words_by (meaning t.form) used (declares t.form used) t.parts (words (inside t.form used t.parts) t.parts)

-- what parameters declare in the body of their function
abbrev pub words_of_params : Forest → List Event
words_of_params (tree (form.Params params.Ids) s ps rest) = words naming.CheckedAndDeclared ps
words_of_params (tree (form.Params f) s ps rest) = words naming.Nothing ps
words_of_params _ = []

abbrev pub beside_at : Form → Forest → List Event → List Event
beside_at (form.Declarator declarator.FunctionOf) ps inner = if is_name ps then words_of_params (after_first ps) else inner
beside_at (form.Declarator f) ps inner = inner
beside_at _ ps inner = []

-- what the parameters next to the name of a declarator among these declare in the body
abbrev pub beside_name : Forest → List Event
beside_name empty = []
beside_name (tree f s ps rest) = beside_at f ps (beside_name ps) ++ beside_name rest

-- ---- trees

abbrev pub body : Forest → List (List Event) → List Event
body ps others = scope (beside_name ps ++ in_order others)

-- where its specifiers hold no type, the name of a function must be a value
abbrev pub name_checked : Forest → List Event
name_checked ps = if has_type (in_first ps) then [] else checked (name_in ps)

-- a function definition, by the events of each of its parts: specifiers, a declarator, declarations and a block
abbrev pub function : Forest → List (List Event) → List Event
function ps (specs ∷ declarator ∷ others) =
    specs ++ (name_checked ps ++ (declarator ++ (declared Value (name_in ps) ++ body ps others)))
function ps _ = []

abbrev pub by_meaning : Meaning → NameUse → Option WordClass → Span → Forest → List (List Event) → List Event
by_meaning means.Nothing used class s ps parts = []
by_meaning (means.Use word wanted) used class s ps parts = Must word wanted s ∷ []
by_meaning (means.Identifier word) used class s ps parts = at_identifier used word s
by_meaning means.Scope used class s ps parts = scope (in_order parts)
by_meaning means.Function used class s ps parts = function ps parts
by_meaning means.Parts used class s ps parts = in_order parts ++ declared_as class (name_in ps)

-- the events of a node by those of each of its parts
abbrev pub at_node : NameUse → Form → Span → Forest → List (List Event) → List Event
at_node used f s ps parts = by_meaning (meaning f) used (declares f used) s ps parts

-- the events of each of these trees, where names are used so
abbrev pub each : NameUse → Forest → List (List Event)
each used empty = []
each used (tree f s ps rest) = at_node used f s ps (each (inside f used ps) ps) ∷ each used rest

abbrev pub events_of : NameUse → Plain → List Event
events_of used t = at_node used t.form t.span t.parts (each (inside t.form used t.parts) t.parts)

-- the events of a tree
abbrev pub events : Plain → List Event
events t = events_of naming.Nothing t

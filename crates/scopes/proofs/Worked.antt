-- Events of whole small trees, worked out by hand, and what they come to.
use Rattle.std.proofs.Common.{◌≡◌, refl, false, List, [], ◌∷◌}
use Rattle.c_tokens.specs.declared.span.Span.{Span}
use Rattle.c_tokens.specs.declared.token.Word.{Word}
use Rattle.c_tokens.specs.declared.kind.Kind.TheVariants as kind
use Rattle.c_tokens.specs.declared.kind.Base.TheVariants as base
use Rattle.c_forms.specs.declared.operators.StorageClass.TheVariants as storage
use Rattle.c_forms.specs.declared.operators.TypeQualifier.TheVariants as qualifier
use Rattle.c_forms.specs.declared.operators.BasicType.TheVariants as basic
use Rattle.c_forms.specs.declared.operators.StructOrUnion.TheVariants as kind_of
use Rattle.c_forms.specs.declared.operators.BinaryOperator.TheVariants as binary
use Rattle.c_forms.specs.declared.forms.Form.{Form}
use Rattle.c_forms.specs.declared.forms.Form.TheVariants as form
use Rattle.c_forms.specs.declared.forms.ExpForm.TheVariants as exp
use Rattle.c_forms.specs.declared.forms.SpecForm.TheVariants as spec
use Rattle.c_forms.specs.declared.forms.DeclaratorForm.TheVariants as declarator
use Rattle.c_forms.specs.declared.forms.ParamsForm.TheVariants as params
use Rattle.c_forms.specs.declared.forms.InitForm.TheVariants as init
use Rattle.c_forms.specs.declared.forms.StmtForm.TheVariants as stmt
use Rattle.c_forms.specs.declared.forms.ItemForm.TheVariants as item
use Rattle.c_forms.specs.declared.forms.HoleForm.TheVariants as hole
use Rattle.c_forms.specs.declared.forms.GroupForm.TheVariants as group
use Rattle.c_forms.specs.Forests.{Plain, node}
use Rattle.scope_tables.specs.declared.table.WordClass.TheVariants.{TypeName, Value}
use Rattle.scopes.specs.declared.event.Event.TheVariants.{Enter, Leave, Must, Declare}
use Rattle.scope_tables.specs.Frames.{Frame}
use Rattle.scopes.specs.Events.{events}
use Rattle.scopes.specs.Settling.{Settled, Scoped, Clashes, settled}

-- ---- words, trees

abbrev T : Word
T = record { 0 = 1 }

abbrev x : Word
x = record { 0 = 2 }

abbrev f : Word
f = record { 0 = 3 }

abbrev a : Word
a = record { 0 = 4 }

abbrev b : Word
b = record { 0 = 5 }

abbrev g : Word
g = record { 0 = 6 }

abbrev place : Span
place = record { start = 0; «end» = 1 }

abbrev over : Form → List Plain → Plain
over form parts = node form place parts

abbrev list : List Plain → Plain
list parts = over (form.Group group.List) parts

abbrev id : Word → Plain
id word = over (form.Id word) []

abbrev name : Word → Plain
name word = over (form.Exp (exp.Name word)) []

abbrev int : Plain
int = over (form.Spec (spec.Basic basic.Int)) []

abbrev void : Plain
void = over (form.Spec (spec.Basic basic.Void)) []

abbrev const : Plain
const = over (form.Spec (spec.Qualifier qualifier.Const)) []

abbrev typedef : Plain
typedef = over (form.Spec (spec.Storage storage.Typedef)) []

abbrev type : Word → Plain
type word = over (form.Spec (spec.Typedef word)) []

abbrev named : Word → Plain
named word = over (form.Declarator declarator.Named) (id word ∷ [])

abbrev absent : Plain
absent = over (form.Declarator declarator.Absent) []

abbrev pointer : Plain → Plain
pointer inner = over (form.Declarator declarator.Pointer) (list [] ∷ inner ∷ [])

abbrev array : Plain → List Plain → Plain
array inner size = over (form.Declarator declarator.ArrayOf) (inner ∷ list size ∷ [])

abbrev typed : List Plain → Plain
typed all = over (form.Params params.Typed) (list all ∷ [])

abbrev ids : List Plain → Plain
ids all = over (form.Params params.Ids) (list all ∷ [])

abbrev function_of : Plain → Plain → Plain
function_of inner parameters = over (form.Declarator declarator.FunctionOf) (inner ∷ parameters ∷ [])

abbrev param : List Plain → Plain → Plain
param specs declarator = over form.Param (list specs ∷ declarator ∷ [])

abbrev one : Plain → Plain
one declarator = over (form.Group group.InitDeclarator) (declarator ∷ list [] ∷ [])

abbrev one_with : Plain → Plain → Plain
one_with declarator value = over (form.Group group.InitDeclarator) (declarator ∷ list (over (form.Group group.Initializer) (over (form.Init init.One) (value ∷ []) ∷ []) ∷ []) ∷ [])

abbrev decl : List Plain → List Plain → Plain
decl specs declarators = over form.Decl (list specs ∷ list declarators ∷ [])

abbrev declaration : List Plain → List Plain → Plain
declaration specs declarators = over (form.Item item.Declaration) (decl specs declarators ∷ [])

abbrev member : List Plain → List Plain → Plain
member specs declarators = over form.Member (list specs ∷ list declarators ∷ [])

abbrev field : Plain → Plain
field declarator = over (form.Group group.MemberDeclarator) (declarator ∷ list [] ∷ [])

abbrev struct_of : List Plain → Plain
struct_of members = over (form.Spec (spec.StructOf kind_of.Struct)) (list [] ∷ list (over (form.Group group.Members) (list members ∷ []) ∷ []) ∷ [])

abbrev enum_of : List Plain → Plain
enum_of enumerators = over (form.Spec spec.EnumOf) (list [] ∷ list (over (form.Group group.Enumerators) (list enumerators ∷ []) ∷ []) ∷ [])

abbrev enumerator : Word → List Plain → Plain
enumerator word value = over form.Enumerator (id word ∷ list value ∷ [])

abbrev valued : Plain → Plain
valued value = over (form.Group group.EnumeratorValue) (value ∷ [])

abbrev express : Plain → Plain
express value = over (form.Stmt stmt.Express) (value ∷ [])

abbrev block : List Plain → Plain
block parts = over (form.Stmt stmt.Block) (list parts ∷ [])

abbrev times : Plain → Plain → Plain
times left right = over (form.Exp (exp.Binary binary.Multiply)) (left ∷ right ∷ [])

abbrev function : List Plain → Plain → List Plain → List Plain → Plain
function specs declarator decls body = over (form.Item item.Function) (list specs ∷ declarator ∷ list decls ∷ block body ∷ [])

-- `(void)`
abbrev none : Plain
none = typed (param (void ∷ []) absent ∷ [])

abbrev placeholder : Plain
placeholder = over (form.Hole (hole.Variable kind.Id false x)) []

abbrev none_declared : List Frame
none_declared = [] ∷ []

-- after `typedef int T;`
abbrev one_type : List Frame
one_type = ((1, TypeName) ∷ []) ∷ []

abbrev comes_to : Plain → Settled
comes_to tree = settled (events tree) one_type

-- ---- declarations

-- `typedef int T;`
typedef_declares : settled (events (declaration (typedef ∷ int ∷ []) (one (named T) ∷ []))) none_declared ≡ Scoped one_type
typedef_declares = refl

-- `T x;` without a declaration of T
unknown_is_value : settled (events (declaration (type T ∷ []) (one (named x) ∷ []))) none_declared ≡ Clashes T TypeName Value place
unknown_is_value = refl

-- `int T = T;`
declared_before_initializer : events (declaration (int ∷ []) (one_with (named T) (name T) ∷ [])) ≡ Declare T Value ∷ Must T Value place ∷ []
declared_before_initializer = refl

-- `int T[T];`: declared after the declarator
declared_after_declarator : comes_to (declaration (int ∷ []) (one (array (named T) (name T ∷ [])) ∷ [])) ≡ Clashes T Value TypeName place
declared_after_declarator = refl

-- `int T, x = T;`
declared_for_the_next : comes_to (declaration (int ∷ []) (one (named T) ∷ one_with (named x) (name T) ∷ [])) ≡ Scoped (((2, Value) ∷ (1, Value) ∷ (1, TypeName) ∷ []) ∷ [])
declared_for_the_next = refl

-- `typedef int x, *g;`
typedef_names : events (declaration (typedef ∷ int ∷ []) (one (named x) ∷ one (pointer (named g)) ∷ [])) ≡ Declare x TypeName ∷ Declare g TypeName ∷ []
typedef_names = refl

-- `int x = (T) b;`
cast_to_type : events (declaration (int ∷ []) (one_with (named x) (over (form.Exp exp.Cast) (over form.TypeName (list (type T ∷ []) ∷ absent ∷ []) ∷ name b ∷ [])) ∷ []))
    ≡ Declare x Value ∷ Must T TypeName place ∷ Must b Value place ∷ []
cast_to_type = refl

-- `struct T x;` and `int x = b.T;`: tags and members take no part
tag_and_member : (events (declaration (over (form.Spec (spec.StructOf kind_of.Struct)) (list (id T ∷ []) ∷ list [] ∷ []) ∷ []) (one (named x) ∷ [])) ≡ Declare x Value ∷ [])
    × (events (declaration (int ∷ []) (one_with (named x) (over (form.Exp exp.Field) (name b ∷ id T ∷ [])) ∷ [])) ≡ Declare x Value ∷ Must b Value place ∷ [])
tag_and_member = (refl, refl)

-- `const T;`
name_without_type : events (declaration (const ∷ []) (one (named T) ∷ [])) ≡ Must T Value place ∷ Declare T Value ∷ []
name_without_type = refl

-- `const x[a], *b;`
names_without_type : events (declaration (const ∷ []) (one (array (named x) (name a ∷ [])) ∷ one (pointer (named b)) ∷ []))
    ≡ Must x Value place ∷ Must a Value place ∷ Declare x Value ∷ Must b Value place ∷ Declare b Value ∷ []
names_without_type = refl

-- `struct { T x; };`
struct_of_type : events (declaration (struct_of (member (type T ∷ []) (field (named x) ∷ []) ∷ []) ∷ []) []) ≡ Must T TypeName place ∷ []
struct_of_type = refl

-- `struct { const T; };`
member_without_type : comes_to (declaration (struct_of (member (const ∷ []) (field (named T) ∷ []) ∷ []) ∷ []) []) ≡ Clashes T Value TypeName place
member_without_type = refl

-- `enum { a, b = a } x;`
enumerators_declared : events (declaration (enum_of (enumerator a [] ∷ enumerator b (valued (name a) ∷ []) ∷ []) ∷ []) (one (named x) ∷ []))
    ≡ Declare a Value ∷ Must a Value place ∷ Declare b Value ∷ Declare x Value ∷ []
enumerators_declared = refl

-- `int f(int (T));`: an abstract function
abstract_function : events (declaration (int ∷ []) (one (function_of (named f) (typed (param (int ∷ []) (function_of absent (typed (param (type T ∷ []) absent ∷ []))) ∷ []))) ∷ []))
    ≡ Enter ∷ Enter ∷ Must T TypeName place ∷ Leave ∷ Leave ∷ Declare f Value ∷ []
abstract_function = refl

-- `int f(const a[a]);`
param_without_type : events (declaration (int ∷ []) (one (function_of (named f) (typed (param (const ∷ []) (array (named a) (name a ∷ [])) ∷ []))) ∷ []))
    ≡ Enter ∷ Must a Value place ∷ Must a Value place ∷ Declare a Value ∷ Leave ∷ Declare f Value ∷ []
param_without_type = refl

-- a placeholder for the name
no_name : events (declaration (const ∷ []) (one (over (form.Declarator declarator.Named) (placeholder ∷ [])) ∷ [])) ≡ []
no_name = refl

-- a call of a macro with an identifier, an expression and a declaration
call_is_a_scope : events (over (form.Call (record { 0 = 0 }) (record { base = base.Tree kind.Item; lists = 0 }) false) (id T ∷ name x ∷ decl (int ∷ []) (one (named T) ∷ []) ∷ []))
    ≡ Enter ∷ Must x Value place ∷ Declare T Value ∷ Leave ∷ []
call_is_a_scope = refl

-- ---- functions

-- `void f(void) { int T; T * x; }`, an expression
hidden_type : comes_to (function (void ∷ []) (function_of (named f) none) [] (decl (int ∷ []) (one (named T) ∷ []) ∷ express (times (name T) (name x)) ∷ [])) ≡ Scoped (((3, Value) ∷ (1, TypeName) ∷ []) ∷ [])
hidden_type = refl

-- `void f(void) { T * x; }`, a declaration
type_in_block : comes_to (function (void ∷ []) (function_of (named f) none) [] (decl (type T ∷ []) (one (pointer (named x)) ∷ []) ∷ [])) ≡ Scoped (((3, Value) ∷ (1, TypeName) ∷ []) ∷ [])
type_in_block = refl

-- `void f(void) { { int T; } { T x; } }`
type_again : comes_to (function (void ∷ []) (function_of (named f) none) [] (block (decl (int ∷ []) (one (named T) ∷ []) ∷ []) ∷ block (decl (type T ∷ []) (one (named x) ∷ []) ∷ []) ∷ []))
    ≡ Scoped (((3, Value) ∷ (1, TypeName) ∷ []) ∷ [])
type_again = refl

-- `void f(void) { int T; { T x; } }`
hidden_for_inner_blocks : comes_to (function (void ∷ []) (function_of (named f) none) [] (decl (int ∷ []) (one (named T) ∷ []) ∷ block (decl (type T ∷ []) (one (named x) ∷ []) ∷ []) ∷ [])) ≡ Clashes T TypeName Value place
hidden_for_inner_blocks = refl

-- `void f(int T) { T; }`
parameter_hides : events (function (void ∷ []) (function_of (named f) (typed (param (int ∷ []) (named T) ∷ []))) [] (express (name T) ∷ []))
    ≡ Enter ∷ Declare T Value ∷ Leave ∷ Declare f Value ∷ Enter ∷ Declare T Value ∷ Enter ∷ Must T Value place ∷ Leave ∷ Leave ∷ []
parameter_hides = refl

-- `f(a, b) int a; { }`
old_style : events (function [] (function_of (named f) (ids (id a ∷ id b ∷ []))) (decl (int ∷ []) (one (named a) ∷ []) ∷ []) [])
    ≡ Must f Value place ∷ Enter ∷ Must a Value place ∷ Must b Value place ∷ Leave ∷ Declare f Value ∷ Enter ∷ Declare a Value ∷ Declare b Value ∷ Declare a Value ∷ Enter ∷ Leave ∷ Leave ∷ []
old_style = refl

-- `int f(enum { x } a, int (*g)(int b)) { x; }`
inner_parameter_stays_inside : events
    (function (int ∷ []) (function_of (named f) (typed (param (enum_of (enumerator x [] ∷ []) ∷ []) (named a) ∷ param (int ∷ []) (function_of (pointer (named g)) (typed (param (int ∷ []) (named b) ∷ []))) ∷ []))) [] (express (name x) ∷ []))
    ≡ Enter ∷ Declare x Value ∷ Declare a Value ∷ Enter ∷ Declare b Value ∷ Leave ∷ Declare g Value ∷ Leave ∷ Declare f Value
    ∷ Enter ∷ Declare x Value ∷ Declare a Value ∷ Declare g Value ∷ Enter ∷ Must x Value place ∷ Leave ∷ Leave ∷ []
inner_parameter_stays_inside = refl

-- `int (*f(int a))(int b) { }`: the parameters next to the name count
parameters_next_to_the_name : events (function (int ∷ []) (function_of (pointer (function_of (named f) (typed (param (int ∷ []) (named a) ∷ [])))) (typed (param (int ∷ []) (named b) ∷ []))) [] [])
    ≡ Enter ∷ Declare a Value ∷ Leave ∷ Enter ∷ Declare b Value ∷ Leave ∷ Declare f Value ∷ Enter ∷ Declare a Value ∷ Enter ∷ Leave ∷ Leave ∷ []
parameters_next_to_the_name = refl

-- `void f(const a) { }`
word_of_untyped_parameter : events (function (void ∷ []) (function_of (named f) (typed (param (const ∷ []) (named a) ∷ []))) [] [])
    ≡ Enter ∷ Must a Value place ∷ Declare a Value ∷ Leave ∷ Declare f Value ∷ Enter ∷ Declare a Value ∷ Enter ∷ Leave ∷ Leave ∷ []
word_of_untyped_parameter = refl

-- `void f(struct { enum { a } b; } x) { }`
enumerator_within_a_parameter : events (function (void ∷ []) (function_of (named f) (typed (param (struct_of (member (enum_of (enumerator a [] ∷ []) ∷ []) (field (named b) ∷ []) ∷ []) ∷ []) (named x) ∷ []))) [] [])
    ≡ Enter ∷ Declare a Value ∷ Declare x Value ∷ Leave ∷ Declare f Value ∷ Enter ∷ Declare a Value ∷ Declare x Value ∷ Enter ∷ Leave ∷ Leave ∷ []
enumerator_within_a_parameter = refl

-- `int f(x) typedef int x; { x b; }`
type_of_declaration_list : comes_to (function (int ∷ []) (function_of (named f) (ids (id x ∷ []))) (decl (typedef ∷ int ∷ []) (one (named x) ∷ []) ∷ []) (decl (type x ∷ []) (one (named b) ∷ []) ∷ []))
    ≡ Scoped (((3, Value) ∷ (1, TypeName) ∷ []) ∷ [])
type_of_declaration_list = refl

-- `T() { }`
function_named_as_a_type : comes_to (function [] (function_of (named T) (ids [])) [] []) ≡ Clashes T Value TypeName place
function_named_as_a_type = refl

-- `int T(void) { T; }`: the function is declared in its body
function_hides_a_type : comes_to (function (int ∷ []) (function_of (named T) none) [] (express (name T) ∷ [])) ≡ Scoped (((1, Value) ∷ (1, TypeName) ∷ []) ∷ [])
function_hides_a_type = refl

-- `void f(void) { T: goto T; }`
label_takes_no_part : events (function (void ∷ []) (function_of (named f) none) [] (over (form.Stmt stmt.Label) (id T ∷ over (form.Stmt stmt.Goto) (id T ∷ []) ∷ []) ∷ []))
    ≡ Enter ∷ Leave ∷ Declare f Value ∷ Enter ∷ Enter ∷ Leave ∷ Leave ∷ []
label_takes_no_part = refl

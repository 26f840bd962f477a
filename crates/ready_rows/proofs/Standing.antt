-- Where a tree of each sort is ready to be spelled, and what it does there.
use Rattle.std.specs.Prelude.{◌≡◌, ℕ, Bool, true, false, not, ◌&&◌, ◌||◌, List, [], ◌∷◌, ◌++◌, Option, Some, None, is_some}
use Rattle.c_tokens.specs.declared.token.Word.{Word}
use Rattle.c_tokens.specs.declared.token.Shape.{Shape}
use Rattle.c_tokens.specs.declared.token.Shape.TheVariants as shape
use Rattle.c_tokens.specs.declared.token.Key.TheVariants as key
use Rattle.c_forms.specs.declared.pieces.Sort.{Sort}
use Rattle.c_forms.specs.declared.pieces.Sort.TheVariants as s
use Rattle.c_forms.specs.declared.forms.Form.TheVariants as form
use Rattle.c_forms.specs.Forests.{Plain, Forest, empty, tree}
use Rattle.c_forms.specs.Opens.{ends_open}
use Rattle.c_forms.specs.Rules.{is_type, is_sole, is_decl}
use Rattle.c_reader.specs.States.{Entry, AsValue, State, Near, Bare, nothing_kept, parameters, is_bare, has_parameters, innermost}
use Rattle.c_reader.specs.States as States
use Rattle.c_reader.specs.Tokens.{Spot}
use Rattle.c_syntax.specs.Allowed.{may_stand}
use Rattle.c_syntax.specs.Reading.{is_absent}
use Rattle.c_syntax.specs.Spells.{may_list}
use Rattle.scope_tables.specs.Frames.{Frame, class_named, left}
use Rattle.scope_meanings.specs.declared.meaning.NameUse.{NameUse}
use Rattle.scope_meanings.specs.declared.meaning.NameUse.TheVariants as naming
use Rattle.scope_meanings.specs.declared.meaning.Name.{Name}
use Rattle.scope_meanings.specs.Meanings.{inside, is_typedef, checked_if, name_in, name_at}
use Rattle.scopes.specs.declared.event.Event.{Event}
use Rattle.scopes.specs.Events.{in_order, each, events_of, beside_at, beside_name, words_of_params}
use Rattle.scopes.specs.Settling.{Scoped, settled}
use Rattle.spelled_scopes.specs.Meant.{frames}
use Rattle.spelled_trees.specs.Scoped as scoped
use Rattle.spelled_trees.specs.Told.{is_named, is_function, is_bare_name}

-- ---- what trees ask

-- the events of trees side by side
abbrev pub asks : NameUse → Forest → List Event
asks u ts = in_order (each u ts)

-- those inside of a tree
abbrev pub inner_asks : NameUse → Plain → List Event
inner_asks u t = asks (inside t.form u t.parts) t.parts

-- they hold
abbrev pub Holds : List Event → State → Type 0
Holds es s = (fs : List Frame) × (settled es (frames s.entries) ≡ Scoped fs)

-- they hold, and lead to a state
pub record Ran (es : List Event) (s u : State) : Type 0 where
  pub scoped : settled es (frames s.entries) ≡ Scoped (frames u.entries)
  pub aside : u.aside ≡ s.aside

-- the name of a declarator
abbrev pub name_of : Plain → Option Name
name_of t = name_at t.form t.span (name_in t.parts)

-- a word that is no type is seen as one
abbrev pub IsValue : State → Option Name → Type 0
IsValue s n = (name : Name) → n ≡ Some name → (not s.kept.has_type && States.is_type s.entries name.word.0) ≡ false

-- an identifier that is one
abbrev pub IsValueWord : State → Plain → Type 0
IsValueWord s t = (word : Word) → t.form ≡ form.Id word → (not s.kept.has_type && States.is_type s.entries word.0) ≡ false

-- ---- where a tree is ready

-- no declaration is begun
abbrev pub IsCalm : Plain → State → Type 0
IsCalm t s = (s.kept ≡ nothing_kept) × Holds (events_of naming.Nothing t) s

-- a declarator
pub record Declares (t : Plain) (s : State) : Type 0 where
  pub holds : Holds (events_of naming.Nothing t) s
  pub value : IsValue s (name_of t)
  -- where a function must be declared, it is its name or has parameters next to that
  pub function : s.kept.is_function_due ≡ true → (is_function t || is_bare_name t) ≡ true

-- the name of its declaration is declared as its specifiers say, and must be a value where they hold no type
abbrev pub declaring : State → NameUse
declaring s = naming.Declared (class_named s.kept.is_typedef) (not s.kept.has_type)

abbrev pub checking : State → NameUse
checking s = checked_if (not s.kept.has_type)

abbrev pub Ready : Sort → Plain → State → Type 0
Ready s.Exp t s = IsCalm t s
Ready s.Literal t s = IsCalm t s
Ready s.Id t s = Unit {0}
Ready s.DeclaredId t s = IsValueWord s t
Ready s.ParameterId t s = IsValueWord s t
Ready s.EnumeratorId t s = Unit {0}
Ready s.TypeName t s = IsCalm t s
Ready s.Spec t s = (may_stand s t.form ≡ true) × Holds (events_of naming.Nothing t) s
Ready s.PlainSpec t s = (may_stand s t.form ≡ true) × Holds (events_of naming.Nothing t) s
Ready s.Qualifier t s = Unit {0}
Ready s.Member t s = IsCalm t s
Ready s.Enumerator t s = Holds (events_of naming.Nothing t) s
Ready s.Declarator t s = Declares t s × (is_named t ≡ true)
Ready s.AbstractDeclarator t s = Declares t s × ((is_named t ≡ false) × (s.kept.name ≡ None))
Ready s.ParamDeclarator t s = Declares t s × (s.kept.name ≡ None)
Ready s.MemberName t s = Declares t s × ((is_absent t || is_named t) ≡ true)
Ready s.Params t s = (s.kept ≡ nothing_kept) × (Holds (inner_asks naming.Nothing t) s × (may_list s t ≡ true))
Ready s.Param t s = IsCalm t s
Ready s.Init t s = IsCalm t s
Ready s.Decl t s = IsCalm t s
Ready s.Stmt t s = IsCalm t s
Ready s.Block t s = IsCalm t s
Ready s.BlockItem t s = IsCalm t s × (is_decl t.form ≡ true → s.is_late ≡ false)
Ready s.Item t s = IsCalm t s
Ready s.InitDeclarator t s = Holds (events_of (declaring s) t) s × (s.kept.is_function_due ≡ false)
Ready s.Initializer t s = Holds (events_of naming.Nothing t) s
Ready s.MemberDeclarator t s = Holds (events_of (checking s) t) s × (s.kept.is_function_due ≡ false)
Ready s.Width t s = Holds (events_of naming.Nothing t) s
Ready s.Members t s = IsCalm t s
Ready s.Enumerators t s = Holds (events_of naming.Nothing t) s
Ready s.EnumeratorValue t s = Holds (events_of naming.Nothing t) s
Ready s.ElsePart t s = IsCalm t s
Ready due t s = ⊥

-- ---- what follows

-- a punctuator, so that nothing goes on with specifiers
abbrev pub begins_sign : List Shape → Bool
begins_sign (shape.Punct p ∷ xs) = true
begins_sign _ = false

-- `else`, or nothing is known of it
abbrev pub begins_else : List Shape → Bool
begins_else [] = true
begins_else (shape.Key key.Else ∷ xs) = true
begins_else _ = false

abbrev pub Follows : Sort → Plain → List Shape → Type 0
Follows s.TypeName t after = begins_sign after ≡ true
Follows s.Param t after = begins_sign after ≡ true
Follows s.Params t after = begins_sign after ≡ true
Follows s.Stmt t after = ends_open t ≡ true → begins_else after ≡ false
Follows s.ElsePart t after = ends_open t ≡ true → begins_else after ≡ false
Follows s.BlockItem t after = ends_open t ≡ true → begins_else after ≡ false
Follows due t after = Unit {0}

-- ---- what it does

-- a declaration that was begun is as before
abbrev pub Keeps : Plain → State → State → Type 0
Keeps t s u = Ran (events_of naming.Nothing t) s u × (u.kept ≡ s.kept)

-- where none was begun, none is
abbrev pub Calms : Plain → State → State → Type 0
Calms t s u = Ran (events_of naming.Nothing t) s u × (u.kept ≡ nothing_kept)

pub record Specifies (t : Plain) (s u : State) : Type 0 where
  pub ran : Ran (events_of naming.Nothing t) s u
  pub typed : u.kept.has_type ≡ (s.kept.has_type || is_type t.form)
  pub sole : u.kept.is_sole ≡ (s.kept.is_sole || is_sole t.form)
  pub typedef : u.kept.is_typedef ≡ (s.kept.is_typedef || is_typedef t.form)
  pub name : u.kept.name ≡ s.kept.name
  pub due : u.kept.is_function_due ≡ s.kept.is_function_due

abbrev pub number_or : Option Name → Option ℕ → Option ℕ
number_or (Some name) before = Some name.word.0
number_or None before = before

-- what stands next to the name of a declarator that has one
pub record Nears (t : Plain) (near : Near) : Type 0 where
  pub bare : is_bare near ≡ is_bare_name t
  pub function : has_parameters near ≡ is_function t
  -- the words of its parameters are declared in the body
  pub words : (es : List Entry) → settled (beside_at t.form t.parts (beside_name t.parts)) (frames es) ≡ Scoped (frames (parameters near ++ es))

pub record Names (t : Plain) (s u : State) : Type 0 where
  pub ran : Ran (events_of naming.Nothing t) s u
  pub typed : u.kept.has_type ≡ s.kept.has_type
  pub typedef : u.kept.is_typedef ≡ s.kept.is_typedef
  pub due : u.kept.is_function_due ≡ s.kept.is_function_due
  pub name : u.kept.name ≡ number_or (name_of t) s.kept.name
  pub named : is_named t ≡ true → is_some u.kept.name ≡ true
  pub near : is_named t ≡ true → Nears t u.kept.near

-- an identifier that is the name of a declarator
pub record Notes (t : Plain) (s u : State) : Type 0 where
  pub entries : u.entries ≡ s.entries
  pub aside : u.aside ≡ s.aside
  pub typed : u.kept.has_type ≡ s.kept.has_type
  pub typedef : u.kept.is_typedef ≡ s.kept.is_typedef
  pub due : u.kept.is_function_due ≡ s.kept.is_function_due
  pub name : (word : Word) → t.form ≡ form.Id word → u.kept.name ≡ Some word.0
  pub near : u.kept.near ≡ Bare

-- an identifier of an identifier list
pub record Lists (t : Plain) (s u : State) : Type 0 where
  pub entries : (word : Word) → t.form ≡ form.Id word → u.entries ≡ AsValue word.0 ∷ s.entries
  pub aside : u.aside ≡ s.aside
  pub typed : u.kept.has_type ≡ s.kept.has_type

-- the parameters of a function
pub record Parameters (t : Plain) (s u : State) : Type 0 where
  pub aside : u.aside ≡ s.aside
  pub left : (fs : List Frame) → settled (inner_asks naming.Nothing t) (frames s.entries) ≡ Scoped fs → left fs ≡ left (frames u.entries)
  pub words : innermost s.entries ≡ [] → (es : List Entry) → settled (words_of_params (tree t.form t.span t.parts empty)) (frames es) ≡ Scoped (frames (innermost u.entries ++ es))

-- declarators of a declaration or a member
pub record Goes (u : NameUse) (t : Plain) (s z : State) : Type 0 where
  pub ran : Ran (events_of u t) s z
  pub typed : z.kept.has_type ≡ s.kept.has_type
  pub typedef : z.kept.is_typedef ≡ s.kept.is_typedef
  pub due : z.kept.is_function_due ≡ s.kept.is_function_due

abbrev pub Made : Sort → Plain → State → State → Type 0
Made s.Exp t s u = Calms t s u
Made s.Literal t s u = Calms t s u
Made s.Id t s u = u ≡ s
Made s.DeclaredId t s u = Notes t s u
Made s.ParameterId t s u = Lists t s u
Made s.EnumeratorId t s u = Notes t s u
Made s.TypeName t s u = Ran (events_of naming.Nothing t) s u
Made s.Spec t s u = Specifies t s u
Made s.PlainSpec t s u = Specifies t s u
Made s.Qualifier t s u = u ≡ s
Made s.Member t s u = Calms t s u
Made s.Enumerator t s u = Ran (events_of naming.Nothing t) s u
Made s.Declarator t s u = Names t s u
Made s.AbstractDeclarator t s u = Names t s u
Made s.ParamDeclarator t s u = Names t s u
Made s.MemberName t s u = Names t s u
Made s.Params t s u = Parameters t s u
Made s.Param t s u = Calms t s u
Made s.Init t s u = Calms t s u
Made s.Decl t s u = Calms t s u
Made s.Stmt t s u = Calms t s u
Made s.Block t s u = Calms t s u
Made s.BlockItem t s u = Calms t s u × (is_decl t.form ≡ true → u.is_late ≡ s.is_late)
Made s.Item t s u = Calms t s u
Made s.InitDeclarator t s u = Goes (declaring s) t s u
Made s.Initializer t s u = Keeps t s u
Made s.MemberDeclarator t s u = Goes (checking s) t s u
Made s.Width t s u = Keeps t s u
Made s.Members t s u = Calms t s u
Made s.Enumerators t s u = Ran (events_of naming.Nothing t) s u
Made s.EnumeratorValue t s u = Keeps t s u
Made s.ElsePart t s u = Calms t s u
Made due t s u = Unit {0}

-- and no scope is left that was not entered
pub record Does (due : Sort) (t : Plain) (i j : Spot) : Type 0 where
  pub made : Made due t i.state j.state
  pub scoped : scoped.Scoped due i.state j.state

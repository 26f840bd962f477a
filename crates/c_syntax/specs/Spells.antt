-- What spells a tree in plain C90 (ISO/IEC 9899:1990, 6.3 to 6.7), whatever reads it.
use Rattle.std.specs.Prelude.{◌≡◌, ◌≤◌, ◌⊎◌, ℕ, zero, suc, ◌+◌, Bool, true, false, not, ◌&&◌, ◌||◌, List, [], ◌∷◌, ◌++◌, Option, Some, None}
use Rattle.c_tokens.specs.declared.token.Word.{Word}
use Rattle.c_tokens.specs.declared.token.Punct.TheVariants as punct
use Rattle.c_tokens.specs.declared.token.Shape.{Shape}
use Rattle.c_tokens.specs.declared.token.Shape.TheVariants as shape
use Rattle.c_tokens.specs.declared.class.Class.{Class}
use Rattle.c_tokens.specs.declared.class.Class.TheVariants as class
use Rattle.c_tokens.specs.ClassNumbers.{class_number}
use Rattle.c_forms.specs.declared.pieces.Event.TheVariants as event
use Rattle.c_forms.specs.declared.pieces.Sort.{Sort}
use Rattle.c_forms.specs.declared.pieces.Sort.TheVariants as s
use Rattle.c_forms.specs.declared.pieces.Repetition.{Repetition}
use Rattle.c_forms.specs.declared.pieces.Repetition.TheVariants.{Optional, Greedy, Due, All, Any, Many, Spliced, Ended}
use Rattle.c_forms.specs.declared.pieces.Piece.{Piece}
use Rattle.c_forms.specs.declared.pieces.Piece.TheVariants.{Token, Maybe, Own, TypeTokens, KindName, One, Group, Rest, Anything, Then}
use Rattle.c_forms.specs.declared.forms.Form.{Form}
use Rattle.c_forms.specs.declared.forms.Form.TheVariants as form
use Rattle.c_forms.specs.declared.forms.DeclaratorForm.{DeclaratorForm}
use Rattle.c_forms.specs.declared.forms.DeclaratorForm.TheVariants as declarator
use Rattle.c_forms.specs.declared.forms.ParamsForm.TheVariants as params
use Rattle.c_forms.specs.declared.forms.ItemForm.TheVariants as item
use Rattle.c_forms.specs.Forests.{Plain, Forest, empty, tree}
use Rattle.c_forms.specs.Forests as forests
use Rattle.c_forms.specs.Measures.{level, pieces, is_plain}
use Rattle.c_forms.specs.Places.{stands}
use Rattle.c_forms.specs.Rules.{is_none, in_first}
use Rattle.c_forms.specs.Tokens.{held}
use Rattle.c_forms.specs.Sets.{Classes, has, starts, held_class}
use Rattle.c_reader.specs.States.{State, happens, noted}
use Rattle.c_reader.specs.Tokens.{Spot, step, turned, raw_at, class_at}
use Rattle.c_syntax.specs.Allowed.{may_happen, may_stand, has_name, places}
use Rattle.c_syntax.specs.Reading.{Before, Usual, before_by, is_missing, is_absent, inside, is_starred, spanned, the_list}

-- the tokens from one spot to another spell a tree of a sort, of at least a level
abbrev pub Spelling : Type 1
Spelling = Sort → ℕ → Plain → Spot → Spot → Type 0

abbrev pub nothing_spelled : Spelling
nothing_spelled due least t i j = ⊥

-- a token of a class
abbrev pub Is : List Shape → Class → Spot → Type 0
Is w c i = class_at w i ≡ class_number c

-- ---- groups

abbrev pub Separated : List Shape → Option Class → Spot → Spot → Type 0
Separated w None i j = i ≡ j
Separated w (Some c) i j = Is w c i × (step i ≡ j)

-- some elements, and one more
pub record Longer (front : List Plain → Spot → Spot → Type 0) (one : Plain → Spot → Spot → Type 0) (w : List Shape) (separator : Option Class) (ts : List Plain) (i j : Spot) : Type 0 where
  pub before : List Plain
  pub last : Plain
  pub place : Spot
  pub next : Spot
  pub value : ts ≡ before ++ (last ∷ [])
  pub first : front before i place
  pub between : Separated w separator place next
  pub second : one last next j

-- one element, and n more
abbrev pub Chain : (Plain → Spot → Spot → Type 0) → List Shape → Option Class → ℕ → List Plain → Spot → Spot → Type 0
Chain one w separator zero ts i j = (t : Plain) × ((ts ≡ t ∷ []) × one t i j)
Chain one w separator (suc n) ts i j = Longer (Chain one w separator n) one w separator ts i j

abbrev pub Elements : (Plain → Spot → Spot → Type 0) → List Shape → Option Class → List Plain → Spot → Spot → Type 0
Elements one w separator ts i j = (n : ℕ) × Chain one w separator n ts i j

abbrev pub Absent : List Plain → Spot → Spot → Type 0
Absent ts i j = (ts ≡ []) × (i ≡ j)

abbrev pub Once : (Plain → Spot → Spot → Type 0) → List Plain → Spot → Spot → Type 0
Once one ts i j = (t : Plain) × ((ts ≡ t ∷ []) × one t i j)

-- no element begins here
abbrev pub NoneBegins : List Shape → Classes → Spot → Type 0
NoneBegins w begin i = has begin (class_at w i) ≡ false

abbrev pub AnyNumber : ℕ → (Plain → Spot → Spot → Type 0) → List Shape → Option Class → List Plain → Spot → Spot → Type 0
AnyNumber least one w separator ts i j = ((least ≡ 0) × Absent ts i j) ⊎ Elements one w separator ts i j

-- the elements of a repetition
abbrev pub IsGroup : Repetition → Sort → (Plain → Spot → Spot → Type 0) → Before → List Shape → List Plain → Spot → Spot → Type 0
IsGroup Optional due one before w ts i j = Absent ts i j ⊎ Once one ts i j
IsGroup Greedy due one before w ts i j = (NoneBegins w (starts due) i × Absent ts i j) ⊎ Once one ts i j
IsGroup Due due one before w ts i j = ((is_missing before ≡ false) × Absent ts i j) ⊎ Once one ts i j
IsGroup All due one before w ts i j = Elements one w None ts i j × NoneBegins w (starts due) j
IsGroup Any due one before w ts i j = AnyNumber 0 one w None ts i j × NoneBegins w (starts due) j
IsGroup (Many separator least) due one before w ts i j = AnyNumber least one w separator ts i j
IsGroup (Spliced separator least) due one before w ts i j = AnyNumber least one w separator ts i j
IsGroup (Ended separator end_token) due one before w ts i j = Elements one w (Some separator) ts i j

-- ---- the pieces of a row

-- the token that a form holds, as it is seen
abbrev pub IsHeld : Form → List Shape → Spot → Type 0
IsHeld f w i = (held f ≡ Some (raw_at w i.place)) × (has (held_class f) (class_at w i) ≡ true)

-- a first part, and the others
pub record Parted (one : Plain → Spot → Spot → Type 0) (rest : Plain → List Plain → Spot → Spot → Type 0) (ts : List Plain) (i j : Spot) : Type 0 where
  pub first : Plain
  pub others : List Plain
  pub place : Spot
  pub value : ts ≡ first ∷ others
  pub is_first : one first i place
  pub are_others : rest first others place j

-- the list of a group
abbrev pub IsList : (List Plain → Spot → Spot → Type 0) → Plain → Spot → Spot → Type 0
IsList elements t i j = (ts : List Plain) × ((t ≡ forests.node the_list (spanned i.place j.place) ts) × elements ts i j)

abbrev pub Matches : Spelling → List Shape → Sort → Form → Before → List Piece → List Plain → Spot → Spot → Type 0
Matches P w own f before [] ts i j = (ts ≡ []) × (i ≡ j)
Matches P w own f before (Token c ∷ ps) ts i j = Is w c i × Matches P w own f Usual ps ts (step i) j
Matches P w own f before (Maybe c ∷ ps) ts i j = (Is w c i × Matches P w own f Usual ps ts (step i) j) ⊎ Matches P w own f Usual ps ts i j
Matches P w own f before (Own ∷ ps) ts i j = IsHeld f w i × Matches P w own f Usual ps ts (step i) j
Matches P w own f before (One due least ∷ ps) ts i j = Parted (P (inside own due) least) (λ t. Matches P w own f (before_by (is_absent t)) ps) ts i j
Matches P w own f before (Group r due least ∷ ps) ts i j =
    Parted (IsList (IsGroup r due (P due least) before w)) (λ t. Matches P w own f (before_by (is_none t.parts)) ps) ts i j
Matches P w own f before (Then e ∷ ps) ts i j = (may_happen e i.state ≡ true) × Matches P w own f before ps ts (turned (happens e) i) j
Matches P w own f before (TypeTokens ∷ ps) ts i j = ⊥
Matches P w own f before (KindName ∷ ps) ts i j = ⊥
Matches P w own f before (Rest due ∷ ps) ts i j = ⊥
Matches P w own f before (Anything ∷ ps) ts i j = ⊥

-- ---- nodes

-- Which of the two spells the parts: those of a node that counts for the height lie one level deeper.
abbrev pub parts_spelled : Bool → Spelling → Spelling → Spelling
parts_spelled true deeper inner = deeper
parts_spelled false deeper inner = inner

abbrev pub Levels : Bool → Type 0 → Type 0
Levels true levels = levels
Levels false levels = Unit {0}

-- a declarator without a name has no name, and where one must have a name it is not absent
abbrev pub is_declarator_of : Sort → DeclaratorForm → Bool
is_declarator_of s.Declarator declarator.Absent = false
is_declarator_of s.AbstractDeclarator declarator.Named = false
is_declarator_of due f = true

abbrev pub is_of : Sort → Form → Bool
is_of due (form.Declarator f) = is_declarator_of due f
is_of due f = true

-- whether a form of plain C may stand where a sort is due
abbrev pub may_be : Sort → Form → Bool
may_be due f = is_plain f && (stands f due && is_of due f)

-- A node by its row, where `levels` says that a level is left, `deeper` spells with one level less, and `inner` in place.
pub record IsNode (levels : Type 0) (deeper inner : Spelling) (w : List Shape) (due : Sort) (least : ℕ) (t : Plain) (i j : Spot) : Type 0 where
  pub parts : List Plain
  pub value : t ≡ forests.node t.form (spanned i.place j.place) parts
  pub may : may_be due t.form ≡ true
  pub tight : least ≤ level t.form
  pub left : Levels (is_starred t.form) levels
  pub matches : Matches (parts_spelled (is_starred t.form) deeper inner) w due t.form Usual (pieces t.form) parts i j

-- ---- parentheses that are added

-- inside of parentheses
abbrev pub wrapped_sort : Sort → Sort
wrapped_sort s.MemberName = s.Declarator
wrapped_sort due = due

-- In parentheses a declarator that need not have a name begins with `*`, `[` or `(`; and no expression begins with a
-- word that is a type.
abbrev pub nameless_starts : Classes
nameless_starts = class_number (class.Punct punct.Star) ∷ class_number (class.Punct punct.LeftBracket) ∷ class_number (class.Punct punct.LeftParen) ∷ []

abbrev pub BeginsWrapped : Sort → List Shape → Spot → Type 0
BeginsWrapped s.AbstractDeclarator w i = has nameless_starts (class_at w i) ≡ true
BeginsWrapped s.ParamDeclarator w i = has nameless_starts (class_at w i) ≡ true
BeginsWrapped s.Exp w i = has (starts s.TypeName) (class_at w (turned (happens event.Aside) i)) ≡ false
BeginsWrapped due w i = Unit {0}

pub record Wraps (levels : Type 0) (deeper : Spelling) (w : List Shape) (due : Sort) (t : Plain) (i j : Spot) : Type 0 where
  pub last : Spot
  pub left : levels
  pub opens : Is w (class.Punct punct.LeftParen) i
  pub begins : BeginsWrapped due w (step i)
  pub within : deeper (wrapped_sort due) 1 t (step i) last
  pub is_there : is_absent t ≡ false
  pub closes : Is w (class.Punct punct.RightParen) last
  pub ends : step last ≡ j

-- ---- words

-- any word
abbrev pub AnyWord : List Shape → Plain → Spot → Type 0
AnyWord w t i = (word : Word) × ((raw_at w i.place ≡ shape.Word word) × (t ≡ forests.node (form.Id word) (spanned i.place (i.place + 1)) []))

-- a word that is no type where it stands
abbrev pub ValueWord : List Shape → Plain → Spot → Type 0
ValueWord w t i = AnyWord w t i × Is w class.Word i

abbrev pub after_name : List Shape → Spot → Spot
after_name w i = turned (noted (raw_at w i.place)) (step i)

abbrev pub IsLiteral : List Shape → Plain → Spot → Type 0
IsLiteral w t i = (word : Word) × ((raw_at w i.place ≡ shape.Str word) × (t ≡ forests.node (form.Literal word) (spanned i.place (i.place + 1)) []))

-- ---- external declarations

-- where a function begins: without specifiers nothing but a function may come
abbrev pub started_by : Bool → Spot → Spot
started_by true i = turned (happens event.FunctionDue) i
started_by false i = i

abbrev pub is_function_form : Form → Bool
is_function_form (form.Item item.Function) = true
is_function_form f = false

abbrev pub has_no_specifiers : Plain → Bool
has_no_specifiers t = is_function_form t.form && is_none (in_first t.parts)

-- ---- what spells a tree where it stands

abbrev pub is_ids : Form → Bool
is_ids (form.Params params.Ids) = true
is_ids f = false

-- a declarator without a name has no identifier list (6.5.5)
abbrev pub may_list : State → Plain → Bool
may_list state t = has_name state || (not (is_ids t.form) || is_none (in_first t.parts))

abbrev pub At : Type 0 → Spelling → Spelling → List Shape → Spelling
At levels deeper inner w s.Exp least t i j = IsNode levels deeper inner w s.Exp least t i j ⊎ Wraps levels deeper w s.Exp t i j
At levels deeper inner w s.Declarator least t i j = IsNode levels deeper inner w s.Declarator least t i j ⊎ Wraps levels deeper w s.Declarator t i j
At levels deeper inner w s.AbstractDeclarator least t i j = IsNode levels deeper inner w s.AbstractDeclarator least t i j ⊎ Wraps levels deeper w s.AbstractDeclarator t i j
At levels deeper inner w s.ParamDeclarator least t i j = IsNode levels deeper inner w s.ParamDeclarator least t i j ⊎ Wraps levels deeper w s.ParamDeclarator t i j
At levels deeper inner w s.MemberName least t i j = IsNode levels deeper inner w s.MemberName least t i j ⊎ Wraps levels deeper w s.MemberName t i j
At levels deeper inner w s.Id least t i j = AnyWord w t i × (step i ≡ j)
At levels deeper inner w s.DeclaredId least t i j = ValueWord w t i × (after_name w i ≡ j)
At levels deeper inner w s.ParameterId least t i j = ValueWord w t i × (turned (happens event.DeclareValue) (after_name w i) ≡ j)
At levels deeper inner w s.EnumeratorId least t i j = AnyWord w t i × (after_name w i ≡ j)
At levels deeper inner w s.Literal least t i j = IsLiteral w t i × (step i ≡ j)
At levels deeper inner w s.Spec least t i j = (may_stand i.state t.form ≡ true) × IsNode levels deeper inner w s.Spec least t i j
At levels deeper inner w s.PlainSpec least t i j = (may_stand i.state t.form ≡ true) × IsNode levels deeper inner w s.PlainSpec least t i j
At levels deeper inner w s.Params least t i j = (may_list i.state t ≡ true) × IsNode levels deeper inner w s.Params least t i j
At levels deeper inner w s.BlockItem least t i j = ((i.state.is_late ≡ false) × IsNode levels deeper inner w s.Decl least t i j)
    ⊎ ((m : Spot) × (IsNode levels deeper inner w s.Stmt least t i m × (turned (happens event.Statements) m ≡ j)))
At levels deeper inner w s.Item least t i j = IsNode levels deeper inner w s.Item least t (started_by (has_no_specifiers t) i) j
At levels deeper inner w due least t i j = IsNode levels deeper inner w due least t i j

-- with so many nodes in one another that do not count for the height
unfoldable pub InPlace : ℕ → Type 0 → Spelling → List Shape → Spelling
InPlace zero levels deeper w = nothing_spelled
InPlace (suc n) levels deeper w = At levels deeper (InPlace n levels deeper w) w

-- The tokens of w from one spot to another spell a tree, with a depth of at most d.
unfoldable pub Spells : ℕ → List Shape → Spelling
Spells zero w = InPlace places ⊥ nothing_spelled w
Spells (suc d) w = InPlace places (Unit {0}) (Spells d w) w

-- The reader of plain C90, made of the table of forms (ISO/IEC 9899:1990, 6.3 to 6.7).
use Rattle.std.specs.Prelude.{ℕ, zero, suc, ◌+◌, ◌-◌, max, Bool, true, false, not, ◌&&◌, ◌||◌, nat_eq, nat_lt, List, [], ◌∷◌, Option, Some, None}
use Rattle.c_tokens.specs.declared.token.Word.{Word}
use Rattle.c_tokens.specs.declared.token.Key.TheVariants as key
use Rattle.c_tokens.specs.declared.token.Punct.{Punct}
use Rattle.c_tokens.specs.declared.token.Punct.TheVariants as punct
use Rattle.c_tokens.specs.declared.token.Shape.{Shape}
use Rattle.c_tokens.specs.declared.token.Shape.TheVariants as shape
use Rattle.c_tokens.specs.declared.class.Class.{Class}
use Rattle.c_tokens.specs.declared.class.Class.TheVariants as class
use Rattle.c_tokens.specs.ClassNumbers.{class_number}
use Rattle.c_forms.specs.declared.pieces.Event.TheVariants as event
use Rattle.c_forms.specs.declared.pieces.Sort.{Sort}
use Rattle.c_forms.specs.declared.pieces.Sort.TheVariants as s
use Rattle.c_forms.specs.declared.pieces.Piece.{Piece}
use Rattle.c_forms.specs.declared.pieces.Piece.TheVariants.{Token, One, Then}
use Rattle.c_forms.specs.declared.pieces.Repetition.TheVariants.{All, Spliced, Ended}
use Rattle.c_forms.specs.declared.forms.Form.{Form}
use Rattle.c_forms.specs.declared.forms.Form.TheVariants as form
use Rattle.c_forms.specs.declared.forms.ExpForm.TheVariants as exp
use Rattle.c_forms.specs.declared.forms.SpecForm.TheVariants as spec
use Rattle.c_forms.specs.declared.forms.DeclaratorForm.{DeclaratorForm}
use Rattle.c_forms.specs.declared.forms.DeclaratorForm.TheVariants as declarator
use Rattle.c_forms.specs.declared.forms.ParamsForm.TheVariants as params
use Rattle.c_forms.specs.declared.forms.InitForm.TheVariants as init
use Rattle.c_forms.specs.declared.forms.StmtForm.TheVariants as stmt
use Rattle.c_forms.specs.declared.forms.ItemForm.TheVariants as item
use Rattle.c_forms.specs.declared.forms.GroupForm.TheVariants as group
use Rattle.c_forms.specs.Forests.{Plain}
use Rattle.c_forms.specs.Measures.{level, pieces}
use Rattle.c_forms.specs.Tokens.{begun, continued}
use Rattle.c_forms.specs.Sets.{has, starts, type_word}
use Rattle.c_reader.specs.States.{State, Seen, is_function, is_bare}
use Rattle.c_reader.specs.Readers.{Reader, Found, Turn, Body, Of, Opened, Give, Refuse, Look, Next, Pick, Note, Fits, Call, Loop, Ask, Change, ◌>>=◌, ◌>>◌, choose, token, turn_while}
use Rattle.c_syntax.specs.Allowed.{may_stand, has_name, places}
use Rattle.c_syntax.specs.Reading.{Usual, Parts, nothing, one, node, deeper, called, parts_of, is_starred, with_last, none_at, list_from, is_absent, is_class, others, grouped, gathered, completed}

-- ---- classes of tokens

abbrev pub sign : Punct → Class
sign p = class.Punct p

abbrev pub is_sign : Punct → Seen → Bool
is_sign p x = is_class (sign p) x

abbrev pub is_value : Seen → Bool
is_value x = is_class class.Word x

abbrev pub is_type_word : Seen → Bool
is_type_word x = nat_eq x.class type_word

abbrev pub is_word : Seen → Bool
is_word x = is_value x || is_type_word x

abbrev pub begins : Sort → Seen → Bool
begins due x = has (starts due) x.class

-- ---- forms

-- a level is needed where a node counts for the height
abbrev pub charged : {A : Type 0} → Bool → Reader A → Reader A
charged true r = Fits 0 r
charged false r = r

-- a node of a form that is read as a sort
unfoldable pub whole : Parts → Sort → Form → Reader Found
whole inner own f = Ask (λ i. charged (is_starred f) (completed (parts_of f inner) own f i.place nothing (pieces f)))

abbrev pub after_first : List Piece → List Piece
after_first [] = []
after_first (p ∷ ps) = ps

-- a node with a first part, and the pieces after that
abbrev pub after_part : Parts → Sort → Form → ℕ → Found → Reader Found
after_part inner own f i x = completed (parts_of f inner) own f i (one x) (after_first (pieces f))

-- ---- words

abbrev pub word_of : Shape → Option Word
word_of (shape.Word word) = Some word
word_of _ = None

abbrev pub leaf_of : (Word → Form) → ℕ → Option Word → Option Found
leaf_of f i (Some word) = Some (node (f word) i (i + 1) nothing)
leaf_of f i None = None

abbrev pub leaf_if : Bool → (Word → Form) → ℕ → Seen → Option Found
leaf_if true f i x = leaf_of f i (word_of x.shape)
leaf_if false f i x = None

abbrev pub literal_of : Shape → ℕ → Option Found
literal_of (shape.Str word) i = Some (node (form.Literal word) i (i + 1) nothing)
literal_of _ i = None

-- any word
abbrev pub identifier : Reader Found
identifier = Ask (λ i. Pick (λ x. leaf_if (is_word x) form.Id i.place x))

-- the name of a declarator, which is no type where no type specifier stands
abbrev pub declared_identifier : Reader Found
declared_identifier = Ask (λ i. Note (λ x. leaf_if (is_value x) form.Id i.place x))

-- a parameter of an identifier list is declared at once
abbrev pub parameter_identifier : Reader Found
parameter_identifier = declared_identifier >>= λ x. Change event.DeclareValue (Give x)

-- an enumerator hides what its word was
abbrev pub enumerator_identifier : Reader Found
enumerator_identifier = Ask (λ i. Note (λ x. leaf_if (is_word x) form.Id i.place x))

abbrev pub literal : Reader Found
literal = Ask (λ i. Pick (λ x. literal_of x.shape i.place))

-- ---- what goes on after a first part

-- a tree so far, and its level
pub record Standing : Type 0 where
  pub found : Found
  pub level : ℕ

abbrev pub standing : ℕ → Reader Found → Reader Standing
standing level r = r >>= λ x. Give (record { found = x; level = level })

abbrev pub left_level : List Piece → ℕ
left_level (One due least ∷ ps) = least
left_level _ = 0

abbrev pub continued_by : Sort → Shape → Option Form
continued_by due (shape.Punct p) = continued due p
continued_by due _ = None

-- Nothing goes on with a member's declarator that is absent. Where a function's declarator is due, no `[` stands next to its name.
abbrev pub may_follow : Sort → State → Plain → Form → Bool
may_follow s.MemberName state t f = not (is_absent t)
may_follow due state t (form.Declarator declarator.ArrayOf) = not (state.kept.is_function_due && is_bare state.kept.near)
may_follow due state t f = true

abbrev pub is_tail : Sort → ℕ → State → Standing → Option Form → Bool
is_tail due least state y (Some f) = not (nat_lt (level f) least) && (not (nat_lt y.level (left_level (pieces f))) && may_follow due state y.found.tree f)
is_tail due least state y None = false

abbrev pub tail_by : Sort → ℕ → Standing → Option Form → Reader Standing
tail_by due i y (Some f) = Fits y.found.height (standing (level f) (after_part called due f i (deeper y.found)))
tail_by due i y None = Refuse

abbrev pub turn : Sort → ℕ → ℕ → Standing → Reader (Turn Standing Standing)
turn due least i y = Ask (λ k. turn_while (λ y x. is_tail due least k.state y (continued_by due x.shape)) (λ x y. tail_by due i y (continued_by due x.shape)) y)

-- what begins at a place goes on
unfoldable pub climb : Sort → ℕ → ℕ → Standing → Reader Found
climb due least i y = Loop (turn due least i) y >>= λ z. Give z.found

-- ---- expressions

-- after an opening parenthesis
abbrev pub parenthesized : Sort → Reader Found
parenthesized due = Call (Of due 1) >>= λ x. token (class_number (sign punct.RightParen)) >> Give (deeper x)

-- a form as tight as it must be
abbrev pub tight : ℕ → Form → Reader Found → Reader Standing
tight least f r = choose (nat_lt (level f) least) Refuse (standing (level f) r)

-- the pieces after an opening parenthesis and what happens there
abbrev pub after_paren : List Piece → List Piece
after_paren (Token c ∷ (Then e ∷ ps)) = ps
after_paren (Token c ∷ ps) = after_paren ps
after_paren _ = []

-- after an opening parenthesis comes a type name, or an expression
unfoldable pub type_or : Reader Standing → Reader Standing → Reader Standing
type_or named other = Next (Change event.Aside (Look (λ y. choose (begins s.TypeName y) named (Change event.Resume other))))

abbrev pub entered : ℕ → ℕ → Reader Standing
entered least i = Fits 0 (type_or (tight least (form.Exp exp.Cast) (completed called s.Exp (form.Exp exp.Cast) i nothing (after_paren (pieces (form.Exp exp.Cast)))))
    (standing 17 (parenthesized s.Exp)))

-- the operand of `sizeof` that begins in parentheses
abbrev pub sized_opened : ℕ → Reader Found
sized_opened i = Call Opened >>= λ x. Ask (λ j. Give (node (form.Exp exp.SizeofExp) i j.place (one (deeper x))))

abbrev pub sized : Parts → ℕ → ℕ → Reader Standing
sized inner least i = Fits 0 (Next (Look (λ x. choose (is_sign punct.LeftParen x)
    (type_or (tight least (form.Exp exp.SizeofType) (completed called s.Exp (form.Exp exp.SizeofType) i nothing (after_paren (pieces (form.Exp exp.SizeofType)))))
    (tight least (form.Exp exp.SizeofExp) (sized_opened i)))
    (tight least (form.Exp exp.SizeofExp) (completed called s.Exp (form.Exp exp.SizeofExp) i nothing (after_first (pieces (form.Exp exp.SizeofExp))))))))

abbrev pub begun_by : Parts → ℕ → Option Form → Reader Standing
begun_by inner least (Some f) = tight least f (whole inner s.Exp f)
begun_by inner least None = Refuse

-- an expression without what goes on after it
unfoldable pub primary : Parts → ℕ → Reader Standing
primary inner least = Ask (λ i. Look (λ x.
    choose (is_sign punct.LeftParen x) (entered least i.place)
    (choose (is_class (class.Key key.Sizeof) x) (sized inner least i.place)
    (choose (begins s.Exp x) (begun_by inner least (begun s.Exp x.shape)) Refuse))))

unfoldable pub expression : Parts → ℕ → Reader Found
expression inner least = Ask (λ i. primary inner least >>= λ y. climb s.Exp least i.place y)

-- the operand of `sizeof` after its opening parenthesis
unfoldable pub opened : Reader Found
opened = Ask (λ i. Look (λ x. choose (begins s.Exp x) (Fits 0 (standing 17 (parenthesized s.Exp))) Refuse) >>= λ y. climb s.Exp 15 (i.place - 1) y)

-- ---- declarators

abbrev pub the_declarator : DeclaratorForm → Form
the_declarator f = form.Declarator f

abbrev pub may_be_absent : Sort → Bool
may_be_absent s.Declarator = false
may_be_absent _ = true

abbrev pub may_be_named : Sort → Bool
may_be_named s.AbstractDeclarator = false
may_be_named _ = true

-- a declarator in parentheses is not absent, and has a name where one must stand or may stand
abbrev pub parenthesized_sort : Sort → Sort
parenthesized_sort s.MemberName = s.Declarator
parenthesized_sort due = due

-- parentheses around a declarator that may have no name begin so
abbrev pub begins_parenthesized : Seen → Bool
begins_parenthesized x = is_sign punct.Star x || (is_sign punct.LeftBracket x || is_sign punct.LeftParen x)

abbrev pub absent_at : ℕ → Found
absent_at i = node (the_declarator declarator.Absent) i i nothing

-- the parameters of a declarator without a name
abbrev pub nameless_function : Sort → ℕ → Reader Standing
nameless_function due i = standing (level (the_declarator declarator.FunctionOf))
    (completed called due (the_declarator declarator.FunctionOf) i (one (deeper (absent_at i))) (after_first (after_first (pieces (the_declarator declarator.FunctionOf)))))

abbrev pub is_nameable : Sort → Bool
is_nameable s.Declarator = true
is_nameable s.MemberName = true
is_nameable _ = false

abbrev pub opened_declarator : Sort → ℕ → Reader Standing
opened_declarator due i = Fits 0 (Next (choose (is_nameable due) (standing 17 (parenthesized (parenthesized_sort due)))
    (Look (λ y. choose (begins_parenthesized y) (standing 17 (parenthesized due)) (nameless_function due i)))))

unfoldable pub declarator_head : Parts → Sort → ℕ → Reader Standing
declarator_head inner due least = Ask (λ i. Look (λ x.
    choose (is_sign punct.LeftParen x) (opened_declarator due i.place)
    (choose (is_sign punct.Star x) (tight least (the_declarator declarator.Pointer) (whole inner due (the_declarator declarator.Pointer)))
    (choose (is_value x && may_be_named due) (standing 17 (whole inner due (the_declarator declarator.Named)))
    (choose (may_be_absent due) (Give (record { found = absent_at i.place; level = 17 })) Refuse)))))

unfoldable pub declarator_of : Parts → Sort → ℕ → Reader Found
declarator_of inner due least = Ask (λ i. declarator_head inner due least >>= λ y. climb due least i.place y)

-- ---- specifiers

abbrev pub typedef_of : Shape → Option Form
typedef_of (shape.Word word) = Some (form.Spec (spec.Typedef word))
typedef_of _ = None

abbrev pub spec_of : Sort → Bool → Seen → Option Form
spec_of due true x = typedef_of x.shape
spec_of due false x = begun due x.shape

abbrev pub specifier_by : Parts → Sort → State → Option Form → Reader Found
specifier_by inner due state (Some f) = choose (may_stand state f) (whole inner due f) Refuse
specifier_by inner due state None = Refuse

unfoldable pub specifier : Parts → Sort → Reader Found
specifier inner due = Ask (λ i. Look (λ x. choose (begins due x) (specifier_by inner due i.state (spec_of due (is_type_word x) x)) Refuse))

-- ---- parameters

-- a list of parameters, which may end in `, ...`
abbrev pub typed : Parts → ℕ → Reader Found
typed inner i = gathered (Ended (sign punct.Comma) (sign punct.Ellipsis)) s.Param (inner s.Param 0) Usual
    >>= λ g. choose g.1.is_ended
    (token (class_number (sign punct.Ellipsis)) >> Ask (λ j. Give (node (form.Params params.TypedAndMore) i j.place (one (list_from g.0 g.1)))))
    (Ask (λ j. Give (node (form.Params params.Typed) i j.place (one (list_from g.0 g.1)))))

-- a declarator without a name has no identifier list
unfoldable pub parameters : Parts → Reader Found
parameters inner = Ask (λ i. Look (λ x. choose (begins s.Spec x) (typed inner i.place)
    (choose (is_value x && not (has_name i.state)) Refuse (whole inner s.Params (form.Params params.Ids)))))

-- ---- initializers

abbrev pub initializer : Parts → Reader Found
initializer inner = Look (λ x. choose (is_sign punct.LeftBrace x) (whole inner s.Init (form.Init init.Braces)) (whole inner s.Init (form.Init init.One)))

-- ---- statements

abbrev pub label : ℕ → Found → Reader Found
label i x = Fits 0 (after_part called s.Stmt (form.Stmt stmt.Label) i (deeper x))

abbrev pub name_leaf : ℕ → Shape → Found
name_leaf i (shape.Word word) = node (form.Exp (exp.Name word)) i (i + 1) nothing
name_leaf i _ = absent_at i

abbrev pub id_leaf : ℕ → Shape → Found
id_leaf i (shape.Word word) = node (form.Id word) i (i + 1) nothing
id_leaf i _ = absent_at i

-- an expression that begins with a word that was read
abbrev pub word_led : Parts → ℕ → Seen → Reader Found
word_led inner i x = climb s.Exp 1 i (record { found = name_leaf i x.shape; level = 17 }) >>= λ y. after_part inner s.Stmt (form.Stmt stmt.Express) i y

-- a label, or an expression that begins with a word; no expression begins with a type
unfoldable pub worded : Parts → ℕ → Seen → Reader Found
worded inner i x = Next (Look (λ y. choose (is_sign punct.Colon y) (label i (id_leaf i x.shape)) (choose (is_value x) (word_led inner i x) Refuse)))

abbrev pub statement_by : Parts → Option Form → Reader Found
statement_by inner (Some f) = whole inner s.Stmt f
statement_by inner None = whole inner s.Stmt (form.Stmt stmt.Express)

unfoldable pub statement : Parts → Reader Found
statement inner = Ask (λ i. Look (λ x. choose (is_word x) (worded inner i.place x) (statement_by inner (begun s.Stmt x.shape))))

abbrev pub block : Parts → Reader Found
block inner = Look (λ x. choose (is_sign punct.LeftBrace x) (whole inner s.Stmt (form.Stmt stmt.Block)) Refuse)

-- after a statement no declaration stands in its block
abbrev pub late : Reader Found → Reader Found
late r = r >>= λ x. Change event.Statements (Give x)

abbrev pub typedef_leaf : ℕ → Shape → Found
typedef_leaf i (shape.Word word) = node (form.Spec (spec.Typedef word)) i (i + 1) nothing
typedef_leaf i _ = absent_at i

-- a declaration whose first specifier is a type that was read
abbrev pub type_led : Parts → ℕ → Seen → Reader Found
type_led inner i x = Change event.SoleType (others All s.Spec (inner s.Spec 0) (with_last (none_at i) (typedef_leaf i x.shape) (i + 1)) >>= λ g. after_part inner s.Decl form.Decl i (list_from i g))

-- a label that is a type elsewhere, or a declaration
unfoldable pub type_first : Parts → ℕ → Seen → Reader Found
type_first inner i x = Next (Look (λ y. choose (is_sign punct.Colon y) (late (label i (id_leaf i x.shape))) (type_led inner i x)))

abbrev pub declaration_at : Parts → ℕ → Seen → Reader Found
declaration_at inner i x = choose (is_type_word x) (type_first inner i x) (whole inner s.Decl form.Decl)

unfoldable pub block_item : Parts → Reader Found
block_item inner = Ask (λ i. Look (λ x. choose (not i.state.is_late && begins s.Decl x) (declaration_at inner i.place x) (late (statement inner))))

-- ---- external declarations

-- what goes on with a declaration after its first declarator
abbrev pub goes_on_declaring : Seen → Bool
goes_on_declaring x = is_sign punct.Comma x || (is_sign punct.Semicolon x || is_sign punct.Equal x)

abbrev pub function_from : Parts → ℕ → Found → Found → Reader Found
function_from inner i specs d = completed inner s.Item (form.Item item.Function) i (record { trees = specs.tree ∷ (d.tree ∷ []); height = max specs.height d.height }) (after_first (after_first (pieces (form.Item item.Function))))

-- a declaration, of its specifiers and its declarators
abbrev pub declaration_of : Parts → ℕ → Found → Found → Reader Found
declaration_of inner i specs list = completed inner s.Decl form.Decl i (record { trees = specs.tree ∷ (list.tree ∷ []); height = max specs.height list.height }) (after_first (after_first (pieces form.Decl)))
    >>= λ x. Ask (λ j. Give (node (form.Item item.Declaration) i j.place (one x)))

-- after the first declarator, which begins at a place
abbrev pub declaration_from : Parts → ℕ → Found → ℕ → Found → Reader Found
declaration_from inner i specs j d = after_part inner s.InitDeclarator (form.Group group.InitDeclarator) j d
    >>= λ x. Ask (λ k. others (Spliced (Some (sign punct.Comma)) 0) s.InitDeclarator (inner s.InitDeclarator 0) (with_last (none_at j) x k.place))
    >>= λ g. declaration_of inner i specs (list_from j g)

-- what follows the first declarator decides, unless it must be a function
abbrev pub outer_by : Bool → Parts → ℕ → Found → ℕ → Found → Reader Found
outer_by due inner i specs j d = Ask (λ k. Look (λ y. choose (due || (is_function k.state && not (goes_on_declaring y)))
    (function_from inner i specs d) (declaration_from inner i specs j d)))

abbrev pub outer : Bool → Parts → ℕ → Found → Reader Found
outer due inner i specs = Ask (λ j. inner s.Declarator 1 >>= λ d. outer_by due inner i specs j.place d)

abbrev pub specified : Parts → ℕ → Reader Found
specified inner i = grouped All s.Spec (inner s.Spec 0) Usual >>= λ specs. Ask (λ j. Look (λ y. choose (is_sign punct.Semicolon y)
    (declaration_of inner i specs (list_from j.place (none_at j.place))) (outer false inner i specs)))

-- without specifiers it is a function
abbrev pub unspecified : Parts → ℕ → Reader Found
unspecified inner i = Change event.FunctionDue (outer true inner i (list_from i (none_at i)))

unfoldable pub external : Parts → Reader Found
external inner = Ask (λ i. Look (λ x. choose (begins s.Spec x) (specified inner i.place) (unspecified inner i.place)))

-- ---- all sorts

abbrev pub at_sort : Parts → Sort → ℕ → Reader Found
at_sort inner s.Exp least = expression inner least
at_sort inner s.Declarator least = declarator_of inner s.Declarator least
at_sort inner s.AbstractDeclarator least = declarator_of inner s.AbstractDeclarator least
at_sort inner s.ParamDeclarator least = declarator_of inner s.ParamDeclarator least
at_sort inner s.MemberName least = declarator_of inner s.MemberName least
at_sort inner s.Id least = identifier
at_sort inner s.DeclaredId least = declared_identifier
at_sort inner s.ParameterId least = parameter_identifier
at_sort inner s.EnumeratorId least = enumerator_identifier
at_sort inner s.Literal least = literal
at_sort inner s.Spec least = specifier inner s.Spec
at_sort inner s.PlainSpec least = specifier inner s.PlainSpec
at_sort inner s.Qualifier least = specifier inner s.Qualifier
at_sort inner s.TypeName least = whole inner s.TypeName form.TypeName
at_sort inner s.Member least = whole inner s.Member form.Member
at_sort inner s.Enumerator least = whole inner s.Enumerator form.Enumerator
at_sort inner s.Params least = parameters inner
at_sort inner s.Param least = whole inner s.Param form.Param
at_sort inner s.Init least = initializer inner
at_sort inner s.Decl least = whole inner s.Decl form.Decl
at_sort inner s.Stmt least = statement inner
at_sort inner s.Block least = block inner
at_sort inner s.BlockItem least = block_item inner
at_sort inner s.Item least = external inner
at_sort inner s.InitDeclarator least = whole inner s.InitDeclarator (form.Group group.InitDeclarator)
at_sort inner s.Initializer least = whole inner s.Initializer (form.Group group.Initializer)
at_sort inner s.MemberDeclarator least = whole inner s.MemberDeclarator (form.Group group.MemberDeclarator)
at_sort inner s.Width least = whole inner s.Width (form.Group group.Width)
at_sort inner s.Members least = whole inner s.Members (form.Group group.Members)
at_sort inner s.Enumerators least = whole inner s.Enumerators (form.Group group.Enumerators)
at_sort inner s.EnumeratorValue least = whole inner s.EnumeratorValue (form.Group group.EnumeratorValue)
at_sort inner s.ElsePart least = whole inner s.ElsePart (form.Group group.ElsePart)
at_sort inner _ least = Refuse

-- a tree of a sort where it stands, in which so many nodes that do not count for the height lie in one another
unfoldable pub in_place : ℕ → Sort → ℕ → Reader Found
in_place zero due least = Refuse
in_place (suc n) due least = at_sort (in_place n) due least

abbrev pub body : Body
body (Of due least) = in_place places due least
body Opened = opened

-- an external declaration
abbrev pub item_reader : Reader Found
item_reader = in_place places s.Item 0

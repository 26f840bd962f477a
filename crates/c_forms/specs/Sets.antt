-- What begins and what goes on with the trees of each sort, as classes of tokens by their numbers.
use Rattle.std.specs.Prelude.{ℕ, ◌+◌, ◌*◌, Bool, true, false, not, ◌&&◌, ◌||◌, nat_lt, nat_eq, List, [], ◌∷◌, ◌++◌, map, Option, Some, None, if◌then◌else◌}
use Rattle.c_tokens.specs.declared.kind.Kind.{Kind}
use Rattle.c_tokens.specs.declared.kind.Kind.TheVariants as kind
use Rattle.c_tokens.specs.declared.token.Key.TheVariants as key
use Rattle.c_tokens.specs.declared.token.Punct.{Punct}
use Rattle.c_tokens.specs.declared.token.Punct.TheVariants as punct
use Rattle.c_tokens.specs.declared.token.Mark.TheVariants as mark
use Rattle.c_tokens.specs.declared.token.Shape.{Shape}
use Rattle.c_tokens.specs.declared.class.Class.{Class}
use Rattle.c_tokens.specs.declared.class.Class.TheVariants.{Key, Punct as Sign, Mark, Word, Int, Float, Char, Str, Hole}
use Rattle.c_tokens.specs.ClassNumbers.{class_number, kind_number}
use Rattle.c_tokens.specs.ClassOf.{class_of}
use Rattle.c_forms.specs.declared.pieces.Sort.{Sort}
use Rattle.c_forms.specs.declared.pieces.Sort.TheVariants as s
use Rattle.c_forms.specs.declared.pieces.Repetition.{Repetition}
use Rattle.c_forms.specs.declared.pieces.Repetition.TheVariants.{Optional, Greedy, Due, All, Any, Many, Spliced, Ended}
use Rattle.c_forms.specs.declared.pieces.Piece.{Piece}
use Rattle.c_forms.specs.declared.pieces.Piece.TheVariants.{Token, Maybe, Own, TypeTokens, KindName, One, Group, Rest, Anything, Then}
use Rattle.c_forms.specs.declared.forms.Form.{Form}
use Rattle.c_forms.specs.Measures.{level}
use Rattle.c_forms.specs.Places.{serves_as_list}
use Rattle.c_forms.specs.Tokens.{held, continued}
use Rattle.c_forms.specs.Fits.{is_spliced, least_of}
use Rattle.c_forms.specs.Rules.{is_list_result}
use Rattle.c_forms.specs.declared.forms.Form.TheVariants as form
use Rattle.c_forms.specs.declared.forms.SpecForm.TheVariants as spec

-- ---- classes as the reader sees them: those of tokens, and words that are types, and calls by what they give

abbrev pub type_word : ℕ
type_word = 3000

abbrev pub call_of : Kind → ℕ → ℕ
call_of k lists = 3001 + 2 * kind_number k + lists

abbrev pub Classes : Type 0
Classes = List ℕ

abbrev pub has : Classes → ℕ → Bool
has [] c = false
has (b ∷ bs) c = nat_eq b c || has bs c

abbrev pub within : Classes → Classes → Bool
within [] bs = true
within (a ∷ all) bs = has bs a && within all bs

abbrev pub apart : Classes → Classes → Bool
apart [] bs = true
apart (a ∷ all) bs = not (has bs a) && apart all bs

abbrev pub given : Bool → Classes → Classes
given true s = s
given false s = []

abbrev pub classes : List Class → Classes
classes all = map class_number all

-- ---- what begins

abbrev hole_of : Kind → ℕ
hole_of k = class_number (Hole k 0)

abbrev exp_starts : Classes
exp_starts = classes (Word ∷ Int ∷ Float ∷ Char ∷ Str ∷ Sign punct.LeftParen ∷ Sign punct.Ampersand ∷ Sign punct.Star ∷ Sign punct.Plus ∷ Sign punct.Minus
    ∷ Sign punct.Tilde ∷ Sign punct.Exclamation ∷ Sign punct.PlusPlus ∷ Sign punct.MinusMinus ∷ Key key.Sizeof ∷ Hole kind.Id 0 ∷ Hole kind.Num 0 ∷ Hole kind.Exp 0 ∷ [])
    ++ (call_of kind.Exp 0 ∷ [])

abbrev qualifier_starts : Classes
qualifier_starts = classes (Key key.Const ∷ Key key.Volatile ∷ [])

abbrev plain_spec_starts : Classes
plain_spec_starts = qualifier_starts ++ (classes (Key key.Void ∷ Key key.Char ∷ Key key.Short ∷ Key key.Int ∷ Key key.Long ∷ Key key.Float ∷ Key key.Double ∷ Key key.Signed ∷ Key key.Unsigned
    ∷ Key key.Struct ∷ Key key.Union ∷ Key key.Enum ∷ Hole kind.Spec 0 ∷ []) ++ (type_word ∷ call_of kind.Spec 0 ∷ []))

abbrev spec_starts : Classes
spec_starts = classes (Key key.Typedef ∷ Key key.Extern ∷ Key key.Static ∷ Key key.Auto ∷ Key key.Register ∷ []) ++ plain_spec_starts

abbrev declarator_starts : Classes
declarator_starts = classes (Word ∷ Hole kind.Id 0 ∷ Sign punct.Star ∷ Sign punct.LeftParen ∷ [])

abbrev any_declarator_starts : Classes
any_declarator_starts = class_number (Sign punct.LeftBracket) ∷ declarator_starts

abbrev stmt_starts : Classes
stmt_starts = exp_starts ++ (type_word ∷ call_of kind.Stmt 0 ∷ classes (Hole kind.Stmt 0 ∷ Sign punct.LeftBrace ∷ Sign punct.Semicolon ∷ Key key.Case ∷ Key key.Default ∷ Key key.If ∷ Key key.Switch
    ∷ Key key.While ∷ Key key.Do ∷ Key key.For ∷ Key key.Goto ∷ Key key.Continue ∷ Key key.Break ∷ Key key.Return ∷ []))

abbrev decl_starts : Classes
decl_starts = hole_of kind.Decl ∷ call_of kind.Decl 0 ∷ spec_starts

abbrev template_starts : Classes
template_starts = classes (Mark mark.QuoteParen ∷ Mark mark.QuoteBrace ∷ Mark mark.QuoteId ∷ Mark mark.QuoteNum ∷ Mark mark.QuoteExp ∷ Mark mark.QuoteStmt ∷ Mark mark.QuoteDecl ∷ Mark mark.QuoteItem
    ∷ Mark mark.QuoteSpec ∷ Mark mark.QuoteParam ∷ Mark mark.QuoteMember ∷ [])

abbrev meta_exp_starts : Classes
meta_exp_starts = classes (Word ∷ Int ∷ Str ∷ Sign punct.LeftParen ∷ Sign punct.Plus ∷ Sign punct.Minus ∷ Sign punct.Tilde ∷ Sign punct.Exclamation ∷ []) ++ template_starts

abbrev pub type_starts : Classes
type_starts = classes (Key key.Int ∷ Mark mark.Text ∷ Mark mark.Id ∷ Mark mark.Num ∷ Mark mark.Exp ∷ Mark mark.Stmt ∷ Mark mark.Decl ∷ Mark mark.Item ∷ Mark mark.Spec ∷ Mark mark.Param ∷ Mark mark.Member ∷ [])

-- what may begin a tree of a sort; a word that is a label or a name may be a type
abbrev pub starts : Sort → Classes
starts s.Exp = exp_starts
starts s.Num = classes (Int ∷ Hole kind.Num 0 ∷ [])
starts s.Id = type_word ∷ classes (Word ∷ Hole kind.Id 0 ∷ [])
starts s.DeclaredId = classes (Word ∷ Hole kind.Id 0 ∷ [])
starts s.ParameterId = classes (Word ∷ Hole kind.Id 0 ∷ [])
starts s.EnumeratorId = type_word ∷ classes (Word ∷ Hole kind.Id 0 ∷ [])
starts s.Literal = classes (Str ∷ [])
starts s.Qualifier = qualifier_starts
starts s.PlainSpec = plain_spec_starts
starts s.Spec = spec_starts
starts s.Specs = plain_spec_starts
starts s.TypeName = plain_spec_starts
starts s.Member = hole_of kind.Member ∷ plain_spec_starts
starts s.Param = hole_of kind.Param ∷ spec_starts
starts s.Decl = decl_starts
starts s.Declarator = declarator_starts
starts s.AbstractDeclarator = classes (Sign punct.Star ∷ Sign punct.LeftParen ∷ Sign punct.LeftBracket ∷ [])
starts s.ParamDeclarator = any_declarator_starts
starts s.MemberName = declarator_starts
starts s.InnerDeclarator = any_declarator_starts
starts s.Params = class_number (Hole kind.Param 1) ∷ hole_of kind.Param ∷ hole_of kind.Id ∷ class_number Word ∷ spec_starts
starts s.Enumerator = type_word ∷ classes (Word ∷ Hole kind.Id 0 ∷ [])
starts s.Init = class_number (Sign punct.LeftBrace) ∷ exp_starts
starts s.Stmt = stmt_starts
starts s.Block = classes (Sign punct.LeftBrace ∷ [])
starts s.BlockItem = stmt_starts ++ decl_starts
starts s.Item = classes (Mark mark.Syntax ∷ Mark mark.Meta ∷ Hole kind.Item 0 ∷ []) ++ (call_of kind.Item 0 ∷ decl_starts ++ declarator_starts)
starts s.MetaExp = meta_exp_starts
starts s.Template = template_starts
starts s.Shape = template_starts
starts s.MetaStmt = classes (Sign punct.LeftBrace ∷ Sign punct.Semicolon ∷ Key key.If ∷ Key key.While ∷ Key key.Do ∷ Key key.For ∷ Key key.Break ∷ Key key.Continue ∷ Key key.Return ∷ Mark mark.Match ∷ []) ++ meta_exp_starts
starts s.MetaBlock = classes (Sign punct.LeftBrace ∷ [])
starts s.Local = type_starts
starts s.MetaParam = type_starts
starts s.Repeated = classes (Word ∷ Mark mark.GroupOpen ∷ [])
starts s.Binder = classes (Word ∷ [])
starts s.InitDeclarator = declarator_starts
starts s.Initializer = classes (Sign punct.Equal ∷ [])
starts s.MemberDeclarator = class_number (Sign punct.Colon) ∷ declarator_starts
starts s.Width = classes (Sign punct.Colon ∷ [])
starts s.Members = classes (Sign punct.LeftBrace ∷ [])
starts s.Enumerators = classes (Sign punct.LeftBrace ∷ [])
starts s.EnumeratorValue = classes (Sign punct.Equal ∷ [])
starts s.ElsePart = classes (Key key.Else ∷ [])
starts s.MetaElsePart = classes (Key key.Else ∷ [])
starts s.Assignment = classes (Word ∷ [])
starts s.MetaValue = classes (Sign punct.Equal ∷ [])
starts s.Element = classes (Word ∷ Sign punct.Comma ∷ Mark mark.Bind ∷ Mark mark.OneOrMore ∷ Mark mark.ZeroOrMore ∷ Mark mark.OneOrMoreBetween ∷ Mark mark.ZeroOrMoreBetween ∷ Mark mark.Maybe ∷ [])
starts s.Argument = []
starts s.List = []
starts s.Rounds = []
starts s.Round = []
starts s.Row = []

-- whether a tree of a sort may have no token
abbrev pub may_be_empty : Sort → Bool
may_be_empty s.AbstractDeclarator = true
may_be_empty s.ParamDeclarator = true
may_be_empty s.MemberName = true
may_be_empty s.InnerDeclarator = true
may_be_empty s.Params = true
may_be_empty _ = false

abbrev all_kinds : List Kind
all_kinds = kind.Id ∷ kind.Num ∷ kind.Exp ∷ kind.Stmt ∷ kind.Decl ∷ kind.Item ∷ kind.Spec ∷ kind.Param ∷ kind.Member ∷ []

abbrev list_starts : List Kind → Sort → Classes
list_starts [] due = []
list_starts (k ∷ ks) due = given (serves_as_list k due) (class_number (Hole k 1) ∷ given (is_list_result k) (call_of k 1 ∷ [])) ++ list_starts ks due

-- what may begin an element of a repetition
abbrev pub element_starts : Repetition → Sort → Classes
element_starts r due = starts due ++ given (is_spliced r) (list_starts all_kinds due)

-- ---- what goes on

abbrev pub all_puncts : List Punct
all_puncts = punct.LeftBracket ∷ punct.RightBracket ∷ punct.LeftParen ∷ punct.RightParen ∷ punct.LeftBrace ∷ punct.RightBrace ∷ punct.Dot ∷ punct.Arrow ∷ punct.PlusPlus ∷ punct.MinusMinus
    ∷ punct.Ampersand ∷ punct.Star ∷ punct.Plus ∷ punct.Minus ∷ punct.Tilde ∷ punct.Exclamation ∷ punct.Slash ∷ punct.Percent ∷ punct.ShiftLeft ∷ punct.ShiftRight ∷ punct.Less ∷ punct.Greater
    ∷ punct.LessEqual ∷ punct.GreaterEqual ∷ punct.EqualEqual ∷ punct.NotEqual ∷ punct.Caret ∷ punct.Bar ∷ punct.AmpersandAmpersand ∷ punct.BarBar ∷ punct.Question ∷ punct.Colon ∷ punct.Equal
    ∷ punct.StarEqual ∷ punct.SlashEqual ∷ punct.PercentEqual ∷ punct.PlusEqual ∷ punct.MinusEqual ∷ punct.ShiftLeftEqual ∷ punct.ShiftRightEqual ∷ punct.AmpersandEqual ∷ punct.CaretEqual
    ∷ punct.BarEqual ∷ punct.Comma ∷ punct.Semicolon ∷ punct.Ellipsis ∷ []

abbrev is_as_tight : ℕ → Option Form → Bool
is_as_tight least (Some f) = not (nat_lt (level f) least)
is_as_tight least None = false

abbrev tails : Sort → ℕ → List Punct → Classes
tails due least [] = []
tails due least (p ∷ ps) = given (is_as_tight least (continued due p)) (class_number (Sign p) ∷ []) ++ tails due least ps

abbrev exp_goes_on : ℕ → Classes
exp_goes_on least = class_number Str ∷ tails s.Exp least all_puncts

abbrev meta_exp_goes_on : ℕ → Classes
meta_exp_goes_on least = tails s.MetaExp least all_puncts

abbrev declarator_goes_on : ℕ → Classes
declarator_goes_on least = tails s.Declarator least all_puncts

abbrev specs_go_on : Classes → Classes
specs_go_on begin = class_number (Sign punct.LeftBrace) ∷ begin

-- what may go on with a tree of a sort, where its level is at least this; an `else` belongs to the nearest statement that can take it
abbrev pub goes_on : Sort → ℕ → Classes
goes_on s.Exp least = exp_goes_on least
goes_on s.MetaExp least = meta_exp_goes_on least
goes_on s.Declarator least = declarator_goes_on least
goes_on s.AbstractDeclarator least = starts s.AbstractDeclarator ++ (qualifier_starts ++ declarator_goes_on least)
goes_on s.ParamDeclarator least = any_declarator_starts ++ (qualifier_starts ++ declarator_goes_on least)
goes_on s.MemberName least = declarator_starts ++ declarator_goes_on least
goes_on s.InnerDeclarator least = any_declarator_starts ++ (qualifier_starts ++ declarator_goes_on least)
goes_on s.PlainSpec least = specs_go_on []
goes_on s.Spec least = specs_go_on []
goes_on s.Specs least = specs_go_on plain_spec_starts
goes_on s.TypeName least = specs_go_on plain_spec_starts ++ (starts s.AbstractDeclarator ++ declarator_goes_on 1)
goes_on s.Param least = specs_go_on spec_starts ++ (any_declarator_starts ++ declarator_goes_on 1)
goes_on s.Params least = class_number (Sign punct.Comma) ∷ (specs_go_on spec_starts ++ (any_declarator_starts ++ declarator_goes_on 1))
goes_on s.Init least = exp_goes_on 2
goes_on s.Initializer least = exp_goes_on 2
goes_on s.InitDeclarator least = class_number (Sign punct.Equal) ∷ (declarator_goes_on 1 ++ exp_goes_on 2)
goes_on s.Width least = exp_goes_on 3
goes_on s.MemberDeclarator least = class_number (Sign punct.Colon) ∷ (declarator_starts ++ (declarator_goes_on 1 ++ exp_goes_on 3))
goes_on s.EnumeratorValue least = exp_goes_on 3
goes_on s.Enumerator least = class_number (Sign punct.Equal) ∷ exp_goes_on 3
goes_on s.MetaValue least = meta_exp_goes_on 1
goes_on s.Assignment least = meta_exp_goes_on 1
goes_on _ least = []

abbrev pub is_optional : Repetition → Bool
is_optional r = nat_eq (least_of r) 0

abbrev between : Option Class → Classes → Classes
between (Some c) begin = class_number c ∷ []
between None begin = begin

-- what a repetition goes on with after an element
abbrev pub goes_on_with : Repetition → Classes → Classes
goes_on_with Optional begin = []
goes_on_with Greedy begin = []
goes_on_with Due begin = []
goes_on_with All begin = begin
goes_on_with Any begin = begin
goes_on_with (Many separator least) begin = between separator begin
goes_on_with (Spliced separator least) begin = between separator begin
goes_on_with (Ended separator end_token) begin = class_number separator ∷ []

-- what may begin what is absent, where it may be absent; an absent `else` can't come after all
abbrev absent_starts : Repetition → Classes → Classes
absent_starts Greedy begin = []
absent_starts r begin = given (is_optional r) begin

-- a part that is there where the one before it is not
abbrev is_due : List Piece → Bool
is_due (Group Due due least ∷ ps) = true
is_due _ = false

abbrev shape_class : Option Shape → Classes
shape_class (Some t) = class_number (class_of t) ∷ []
shape_class None = classes (Word ∷ [])

-- the class of the token that a form holds, as the reader sees it
abbrev pub held_class : Form → Classes
held_class (form.Spec (spec.Typedef w)) = type_word ∷ []
held_class f = shape_class (held f)

-- what may begin the pieces of a form
abbrev pub first : Form → List Piece → Classes
first f [] = []
first f (Token c ∷ ps) = class_number c ∷ []
first f (Maybe c ∷ ps) = class_number c ∷ first f ps
first f (Own ∷ ps) = held_class f
first f (TypeTokens ∷ ps) = type_starts
first f (KindName ∷ ps) = classes (Word ∷ [])
first f (Then e ∷ ps) = first f ps
first f (One due least ∷ ps) = starts due ++ given (may_be_empty due) (first f ps)
first f (Group r due least ∷ ps) = element_starts r due ++ given (is_optional r) (first f ps)
first f (Rest due ∷ ps) = []
first f (Anything ∷ ps) = []

-- whether pieces may have no token
abbrev pub may_all_be_empty : List Piece → Bool
may_all_be_empty [] = true
may_all_be_empty (Maybe c ∷ ps) = may_all_be_empty ps
may_all_be_empty (Then e ∷ ps) = may_all_be_empty ps
may_all_be_empty (One due least ∷ ps) = may_be_empty due && may_all_be_empty ps
may_all_be_empty (Group r due least ∷ ps) = is_optional r && (not (is_due ps) && may_all_be_empty ps)
may_all_be_empty (Rest due ∷ ps) = true
may_all_be_empty (Anything ∷ ps) = true
may_all_be_empty _ = false

-- what may go on with a piece that is a part
abbrev pub part_goes_on : Repetition → Sort → ℕ → Classes
part_goes_on r due least = goes_on due least ++ (goes_on_with r (element_starts r due) ++ absent_starts r (element_starts r due))

-- what may go on with pieces
abbrev pub ends : List Piece → Classes
ends [] = []
ends (Token c ∷ ps) = ends ps
ends (Maybe c ∷ ps) = ends ps ++ given (may_all_be_empty ps) (class_number c ∷ [])
ends (Own ∷ ps) = ends ps
ends (TypeTokens ∷ ps) = ends ps
ends (KindName ∷ ps) = ends ps
ends (Then e ∷ ps) = ends ps
ends (One due least ∷ ps) = ends ps ++ given (may_all_be_empty ps) (goes_on due least)
ends (Group r due least ∷ ps) = ends ps ++ given (may_all_be_empty ps) (if is_due ps then goes_on due least else part_goes_on r due least)
ends (Rest due ∷ ps) = []
ends (Anything ∷ ps) = []

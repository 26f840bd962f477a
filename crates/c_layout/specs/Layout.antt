-- The marks of a tree: its tokens by the rows of the table, with the least parentheses, and where lines begin.
use Rattle.std.specs.Prelude.{ℕ, ◌+◌, nat_lt, Bool, true, false, if◌then◌else◌, List, [], ◌∷◌, ◌++◌}
use Rattle.c_tokens.specs.declared.token.Punct.TheVariants.{LeftParen, RightParen}
use Rattle.c_forms.specs.declared.pieces.Piece.{Piece}
use Rattle.c_forms.specs.declared.pieces.Piece.TheVariants.{Token, Maybe, Own, TypeTokens, KindName, One, Group, Rest, Anything, Then}
use Rattle.c_forms.specs.declared.forms.Form.{Form}
use Rattle.c_forms.specs.Forests.{Plain, Forest, empty, tree}
use Rattle.c_forms.specs.Measures.{level, pieces}
use Rattle.c_forms.specs.Tokens.{held}
use Rattle.c_layout.specs.declared.marks.Mark.{Mark}
use Rattle.c_layout.specs.declared.standing.Standing.{Standing}
use Rattle.c_layout.specs.declared.standing.Standing.TheVariants as stands
use Rattle.c_layout.specs.declared.standing.GroupStanding.{GroupStanding}
use Rattle.c_layout.specs.declared.standing.GroupStanding.TheVariants as stand
use Rattle.c_layout.specs.Marks.{line, plain, separator_of, shape_of, token_in, if_any}
use Rattle.c_layout.specs.Standing.{standing_of_part, standing_of_group, is_block, follows_else}

-- a tree by itself: its form, and its marks where its first line is at a depth
pub record Head : Type 0 where
  pub form : Form
  pub marks : ℕ → List Mark

-- the same, and its parts
pub record Laid : Type 0 where
  pub head : Head
  pub parts : List Head

abbrev pub heads : List Laid → List Head
heads [] = []
heads (l ∷ ls) = l.head ∷ heads ls

abbrev pub enclosed : List Mark → List Mark
enclosed ms = plain LeftParen ∷ (ms ++ plain RightParen ∷ [])

-- a part: in parentheses if it holds together less tightly than is due
abbrev pub placed : ℕ → ℕ → Head → List Mark
placed due depth h = if nat_lt (level h.form) due then enclosed (h.marks depth) else h.marks depth

-- a body: on the line of the header if it goes on with it, otherwise on lines of its own, one deeper
abbrev pub body : Bool → ℕ → ℕ → Head → List Mark
body goes_on due depth h = if goes_on then placed due depth h else line (depth + 1) ∷ placed due (depth + 1) h

abbrev pub part : Standing → ℕ → ℕ → Head → List Mark
part stands.Along due depth h = placed due depth h
part stands.Body due depth h = body (is_block h.form) due depth h
part stands.BodyOfDo due depth h = body (is_block h.form) due depth h ++ line depth ∷ []
part stands.BodyOfElse due depth h = body (follows_else h.form) due depth h

-- whether elements begin lines
abbrev pub start : Bool → ℕ → List Mark
start false depth = []
start true depth = line depth ∷ []

-- elements, each after a separator
abbrev pub others : Bool → List Mark → ℕ → ℕ → List Head → List Mark
others starts separator due depth [] = []
others starts separator due depth (h ∷ hs) = separator ++ (start starts depth ++ (placed due depth h ++ others starts separator due depth hs))

-- elements with separators between them
abbrev pub joined : Bool → List Mark → ℕ → ℕ → List Head → List Mark
joined starts separator due depth [] = []
joined starts separator due depth (h ∷ hs) = start starts depth ++ (placed due depth h ++ others starts separator due depth hs)

abbrev pub inside : List Mark → ℕ → ℕ → List Head → List Mark
inside separator due depth hs = joined true separator due (depth + 1) hs ++ line depth ∷ []

abbrev pub inside_if_any : List Mark → ℕ → ℕ → List Head → List Mark
inside_if_any separator due depth [] = []
inside_if_any separator due depth (h ∷ hs) = inside separator due depth (h ∷ hs)

abbrev pub elements : GroupStanding → List Mark → ℕ → ℕ → List Head → List Mark
elements stand.Along separator due depth hs = joined false separator due depth hs
elements stand.Inside separator due depth hs = inside separator due depth hs
elements stand.Declarations separator due depth hs = inside_if_any separator due depth hs
elements stand.Else separator due depth hs = joined true separator due depth hs

-- the marks of a node over its parts, as the pieces of its row say
abbrev pub put : List Piece → Form → List Laid → ℕ → List Mark
put [] f ls depth = []
put (Token c ∷ q) f ls depth = if_any (token_in f (shape_of c)) ++ put q f ls depth
put (Own ∷ q) f ls depth = if_any (token_in f (held f)) ++ put q f ls depth
put (One due least ∷ q) f [] depth = []
put (One due least ∷ q) f (l ∷ ls) depth = part (standing_of_part f due) least depth l.head ++ put q f ls depth
put (Group r due least ∷ q) f [] depth = []
put (Group r due least ∷ q) f (l ∷ ls) depth = elements (standing_of_group due) (if_any (token_in f (separator_of r))) least depth l.parts ++ put q f ls depth
put (Maybe c ∷ q) f ls depth = put q f ls depth
put (Then e ∷ q) f ls depth = put q f ls depth
put (TypeTokens ∷ q) f ls depth = put q f ls depth
put (KindName ∷ q) f ls depth = put q f ls depth
put (Rest due ∷ q) f ls depth = put q f ls depth
put (Anything ∷ q) f ls depth = put q f ls depth

abbrev pub laid : Forest → List Laid
laid empty = []
laid (tree f s ps rest) = record { head = record { form = f; marks = put (pieces f) f (laid ps) }; parts = heads (laid ps) } ∷ laid rest

-- the marks of a tree whose first line is at a depth and has begun
abbrev pub laid_at : ℕ → Plain → List Mark
laid_at depth t = put (pieces t.form) t.form (laid t.parts) depth

abbrev pub head_of : Plain → Head
head_of t = record { form = t.form; marks = put (pieces t.form) t.form (laid t.parts) }

-- the marks of an item
abbrev pub layout : Plain → List Mark
layout t = line 0 ∷ laid_at 0 t

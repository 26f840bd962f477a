-- The tokens of a tree by the rows of the table alone, with the least parentheses: those of its layout, without lines.
use Rattle.std.specs.Prelude.{ℕ, nat_lt, if◌then◌else◌, List, [], ◌∷◌, ◌++◌}
use Rattle.c_tokens.specs.declared.token.Punct.TheVariants.{LeftParen, RightParen}
use Rattle.c_tokens.specs.declared.token.Shape.{Shape}
use Rattle.c_tokens.specs.declared.token.Shape.TheVariants.{Punct}
use Rattle.c_forms.specs.declared.pieces.Piece.{Piece}
use Rattle.c_forms.specs.declared.pieces.Piece.TheVariants.{Token, Maybe, Own, TypeTokens, KindName, One, Group, Rest, Anything, Then}
use Rattle.c_forms.specs.declared.forms.Form.{Form}
use Rattle.c_forms.specs.Forests.{Plain, Forest, empty, tree}
use Rattle.c_forms.specs.Measures.{level, pieces}
use Rattle.c_forms.specs.Tokens.{held}
use Rattle.c_layout.specs.declared.marks.Mark.{Mark}
use Rattle.c_layout.specs.declared.marks.Mark.TheVariants as mark
use Rattle.c_layout.specs.Marks.{separator_of, shape_of, if_any}

-- a tree by itself: its form and its tokens
pub record Spelling : Type 0 where
  pub form : Form
  pub tokens : List Shape

-- the same, and its parts
pub record Spelled : Type 0 where
  pub whole : Spelling
  pub parts : List Spelling

abbrev pub wholes : List Spelled → List Spelling
wholes [] = []
wholes (w ∷ ws) = w.whole ∷ wholes ws

-- in parentheses if it holds together less tightly than is due
abbrev pub in_place : ℕ → Spelling → List Shape
in_place due w = if nat_lt (level w.form) due then Punct LeftParen ∷ (w.tokens ++ Punct RightParen ∷ []) else w.tokens

abbrev pub after_first : List Shape → ℕ → List Spelling → List Shape
after_first separator due [] = []
after_first separator due (w ∷ ws) = separator ++ (in_place due w ++ after_first separator due ws)

abbrev pub separated : List Shape → ℕ → List Spelling → List Shape
separated separator due [] = []
separated separator due (w ∷ ws) = in_place due w ++ after_first separator due ws

abbrev pub spell : List Piece → Form → List Spelled → List Shape
spell [] f ws = []
spell (Token c ∷ q) f ws = if_any (shape_of c) ++ spell q f ws
spell (Own ∷ q) f ws = if_any (held f) ++ spell q f ws
spell (One due least ∷ q) f [] = []
spell (One due least ∷ q) f (w ∷ ws) = in_place least w.whole ++ spell q f ws
spell (Group r due least ∷ q) f [] = []
spell (Group r due least ∷ q) f (w ∷ ws) = separated (if_any (separator_of r)) least w.parts ++ spell q f ws
spell (Maybe c ∷ q) f ws = spell q f ws
spell (Then e ∷ q) f ws = spell q f ws
spell (TypeTokens ∷ q) f ws = spell q f ws
spell (KindName ∷ q) f ws = spell q f ws
spell (Rest due ∷ q) f ws = spell q f ws
spell (Anything ∷ q) f ws = spell q f ws

abbrev pub all_spelled : Forest → List Spelled
all_spelled empty = []
all_spelled (tree f s ps rest) = record { whole = record { form = f; tokens = spell (pieces f) f (all_spelled ps) }; parts = wholes (all_spelled ps) } ∷ all_spelled rest

-- the tokens of a tree
abbrev pub tokens : Plain → List Shape
tokens t = spell (pieces t.form) t.form (all_spelled t.parts)

-- the tokens among marks
abbrev pub tokens_among : List Mark → List Shape
tokens_among [] = []
tokens_among (mark.Token s u ∷ ms) = s ∷ tokens_among ms
tokens_among (mark.Line depth ∷ ms) = tokens_among ms

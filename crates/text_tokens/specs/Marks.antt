-- What holds of each mark of a layout, by the rows of its forms.
use Rattle.std.specs.Prelude.{ℕ, List, [], ◌∷◌}
use Rattle.c_tokens.specs.declared.token.Punct.TheVariants.{LeftParen, RightParen}
use Rattle.c_forms.specs.declared.pieces.Piece.{Piece}
use Rattle.c_forms.specs.declared.pieces.Piece.TheVariants.{Token, Maybe, Own, TypeTokens, KindName, One, Group, Rest, Anything, Then}
use Rattle.c_forms.specs.declared.forms.Form.{Form}
use Rattle.c_forms.specs.Forests.{Forest, empty, tree}
use Rattle.c_forms.specs.Measures.{pieces}
use Rattle.c_forms.specs.Tokens.{held}
use Rattle.c_layout.specs.declared.marks.Mark.{Mark}
use Rattle.c_layout.specs.declared.marks.Mark.TheVariants as mark
use Rattle.c_layout.specs.Marks.{line, plain, separator_of, shape_of, token_in, if_any}
use Rattle.text_tokens.specs.Written.{IsWritten}

-- of each mark
abbrev pub All : (Mark → Type 0) → List Mark → Type 0
All P [] = Unit {0}
All P (m ∷ ms) = P m × All P ms

-- of the tokens that the pieces of a row name for a node of a form
abbrev pub AllOfPieces : (Mark → Type 0) → Form → List Piece → Type 0
AllOfPieces P f [] = Unit {0}
AllOfPieces P f (Token c ∷ q) = All P (if_any (token_in f (shape_of c))) × AllOfPieces P f q
AllOfPieces P f (Own ∷ q) = All P (if_any (token_in f (held f))) × AllOfPieces P f q
AllOfPieces P f (Group r due least ∷ q) = All P (if_any (token_in f (separator_of r))) × AllOfPieces P f q
AllOfPieces P f (One due least ∷ q) = AllOfPieces P f q
AllOfPieces P f (Maybe c ∷ q) = AllOfPieces P f q
AllOfPieces P f (Then e ∷ q) = AllOfPieces P f q
AllOfPieces P f (TypeTokens ∷ q) = AllOfPieces P f q
AllOfPieces P f (KindName ∷ q) = AllOfPieces P f q
AllOfPieces P f (Rest due ∷ q) = AllOfPieces P f q
AllOfPieces P f (Anything ∷ q) = AllOfPieces P f q

-- of those of each node of a forest
abbrev pub AllOfRows : (Mark → Type 0) → Forest → Type 0
AllOfRows P empty = Unit {0}
AllOfRows P (tree f s ps rest) = AllOfPieces P f (pieces f) × (AllOfRows P ps × AllOfRows P rest)

-- of what a layout adds to these: beginnings of lines, and parentheses
pub record OfAdded (P : Mark → Type 0) : Type 0 where
  pub lines : (depth : ℕ) → P (line depth)
  pub opening : P (plain LeftParen)
  pub closing : P (plain RightParen)

-- a mark whose token, if it is one, is written
abbrev pub IsWrittenMark : List (List ℕ) → Mark → Type 0
IsWrittenMark names (mark.Line depth) = Unit {0}
IsWrittenMark names (mark.Token a u) = IsWritten names a

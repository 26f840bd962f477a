-- Tokens whose texts stand for them.
use Rattle.std.specs.Prelude.{◌≡◌, ℕ, ◌<◌, List, [], ◌∷◌, ◌++◌, length, map, Option, Some, None, Ok}
use Rattle.c_tokens.specs.declared.lexical.Dialect.TheVariants.{C90}
use Rattle.c_tokens.specs.declared.token.Shape.{Shape}
use Rattle.c_tokens.specs.declared.token.Shape.TheVariants as s
use Rattle.c_tokens.specs.declared.token.Token.{Token}
use Rattle.c_tokens.specs.declared.token.Word.{Word}
use Rattle.c_tokens.specs.Spelling.{Sort, word, integer, floating, character, string, token, spelling_of}
use Rattle.c_tokens.specs.Tokens.{tokens_of}
use Rattle.c_forms.specs.Forests.{Plain, Forest, empty, tree}
use Rattle.c_forms.specs.Tokens.{held}
use Rattle.c_layout.specs.declared.marks.Mark.{Mark}
use Rattle.c_layout.specs.declared.marks.Mark.TheVariants as mark
use Rattle.c_text.specs.Texts.{text_of_word}

-- the text of a number in a table of words is a spelling of a sort
pub record IsSpelled (names : List (List ℕ)) (n : Word) (sort : Sort) : Type 0 where
  pub within : n.0 < length names
  pub spelled : spelling_of C90 (text_of_word names n) ≡ Some (token sort)

-- a token of plain C whose text is a spelling of its sort
abbrev pub IsWritten : List (List ℕ) → Shape → Type 0
IsWritten names (s.Key k) = Unit {0}
IsWritten names (s.Punct p) = Unit {0}
IsWritten names (s.Mark m) = ⊥
IsWritten names (s.Word n) = IsSpelled names n word
IsWritten names (s.Int n) = IsSpelled names n integer
IsWritten names (s.Float n) = IsSpelled names n floating
IsWritten names (s.Char n) = IsSpelled names n character
IsWritten names (s.Str n) = IsSpelled names n string
IsWritten names s.End = ⊥

-- and each token of marks is one
abbrev pub AllWritten : List (List ℕ) → List Mark → Type 0
AllWritten names [] = Unit {0}
AllWritten names (mark.Line depth ∷ ms) = AllWritten names ms
AllWritten names (mark.Token a u ∷ ms) = IsWritten names a × AllWritten names ms

-- a token that a form holds, if it holds one
abbrev pub IsWrittenIfAny : List (List ℕ) → Option Shape → Type 0
IsWrittenIfAny names None = Unit {0}
IsWrittenIfAny names (Some a) = IsWritten names a

-- the words, constants and literals of the nodes of trees
abbrev pub AreWritten : List (List ℕ) → Forest → Type 0
AreWritten names empty = Unit {0}
AreWritten names (tree f s ps rest) = IsWrittenIfAny names (held f) × (AreWritten names ps × AreWritten names rest)

-- those of a tree
abbrev pub TreeIsWritten : List (List ℕ) → Plain → Type 0
TreeIsWritten names t = IsWrittenIfAny names (held t.form) × AreWritten names t.parts

-- The tokens of a text are these and End.
pub record HasTokens (names : List (List ℕ)) (bytes : List ℕ) (shapes : List Shape) : Type 0 where
  pub tokens : List Token
  pub lexed : tokens_of C90 names bytes ≡ Ok tokens
  pub same : map (λ t. t.shape) tokens ≡ shapes ++ s.End ∷ []

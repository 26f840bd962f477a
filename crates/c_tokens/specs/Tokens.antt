-- The tokens of a text: at each place the longest spelling (ISO/IEC 9899:1990, 6.1).
use Rattle.std.specs.Prelude.{◌≡◌, ℕ, zero, suc, ◌+◌, ◌-◌, List, [], ◌∷◌, ◌++◌, length, take, Result, Ok, Err, is_some, unwrap_or, position, if◌then◌else◌, bytes_eq}
use Rattle.c_tokens.specs.declared.lexical.Dialect.{Dialect}
use Rattle.c_tokens.specs.declared.lexical.LexCause.{LexCause}
use Rattle.c_tokens.specs.declared.lexical.LexCause.TheVariants as cause
use Rattle.c_tokens.specs.declared.token.Shape.{Shape}
use Rattle.c_tokens.specs.declared.token.Shape.TheVariants as s
use Rattle.c_tokens.specs.declared.token.Token.{Token}
use Rattle.c_tokens.specs.Skipped.{stands_first}
use Rattle.c_tokens.specs.Spelling.{Sort, keyword, punctuator, mark, word, integer, floating, character, string, Spelling, space, marker, token, refused, spelling_of}

-- The greatest length up to `most` at which the beginning of the text is a spelling, and 0 where there is none.
unfoldable pub longest_up_to : Dialect → ℕ → List ℕ → ℕ
longest_up_to dialect zero text = 0
longest_up_to dialect (suc n) text = if is_some (spelling_of dialect (take (suc n) text)) then suc n else longest_up_to dialect n text

-- the length of the longest spelling with which the text begins
unfoldable pub longest : Dialect → List ℕ → ℕ
longest dialect text = longest_up_to dialect (length text) text

-- what stands at a place: the longest spelling there
pub record Piece : Type 0 where
  pub start : ℕ
  pub text : List ℕ

-- what a piece stands for
unfoldable pub meaning : Dialect → List ℕ → Spelling
meaning dialect text = unwrap_or (spelling_of dialect text) (refused 0 cause.StrayByte)

-- after a piece the next one is reached, unless it is refused
abbrev pub unless_refused : Spelling → List Piece → List Piece
unless_refused (refused offset cause) next = []
unless_refused _ next = next

-- The pieces at the reached places of a text that begins at a place.
-- The first `inside` bytes belong to the piece before.
unfoldable pub pieces_from : Dialect → ℕ → ℕ → List ℕ → List Piece
pieces_from dialect at inside [] = []
pieces_from dialect at (suc inside) (b ∷ rest) = pieces_from dialect (at + 1) inside rest
pieces_from dialect at zero (b ∷ rest) =
    let text = take (longest dialect (b ∷ rest)) (b ∷ rest)
    in record { start = at; text = text } ∷ unless_refused (meaning dialect text) (pieces_from dialect (at + 1) (length text - 1) rest)

-- the pieces at the reached places, in order; only the last may be refused
unfoldable pub pieces : Dialect → List ℕ → List Piece
pieces dialect bytes = pieces_from dialect 0 0 bytes

-- the number of a text: its first place in the table of texts
unfoldable pub number_in : List (List ℕ) → List ℕ → ℕ
number_in names text = unwrap_or (position (bytes_eq text) names) 0

abbrev pub shape_of : List (List ℕ) → List ℕ → Sort → Shape
shape_of names text (keyword k) = s.Key k
shape_of names text (punctuator p) = s.Punct p
shape_of names text (mark m) = s.Mark m
shape_of names text word = s.Word (record { 0 = number_in names text })
shape_of names text integer = s.Int (record { 0 = number_in names text })
shape_of names text floating = s.Float (record { 0 = number_in names text })
shape_of names text character = s.Char (record { 0 = number_in names text })
shape_of names text string = s.Str (record { 0 = number_in names text })

abbrev pub token_at : Shape → ℕ → ℕ → Token
token_at shape start end = record { shape = shape; span = record { start = start; end = end } }

-- the place where a text is spoiled, and why
pub record Bad : Type 0 where
  pub at : ℕ
  pub cause : LexCause

abbrev pub bad : ℕ → LexCause → Result (List Token) Bad
bad at cause = Err (record { at = at; cause = cause })

-- a token before others, unless those are refused
abbrev pub before : Token → Result (List Token) Bad → Result (List Token) Bad
before t (Ok others) = Ok (t ∷ others)
before t (Err e) = Err e

-- `bytes` is the whole text
abbrev pub adds : List (List ℕ) → List ℕ → Piece → Spelling → Result (List Token) Bad → Result (List Token) Bad
adds names bytes p space others = others
adds names bytes p marker others = if stands_first bytes p.start then others else bad p.start cause.Directive
adds names bytes p (token sort) others = before (token_at (shape_of names p.text sort) p.start (p.start + length p.text)) others
adds names bytes p (refused offset c) others = bad (p.start + offset) c

-- The tokens of pieces, and End at the end of the source; or where the first of them is spoiled.
-- `bytes` is the whole text.
unfoldable pub tokens_in : Dialect → List (List ℕ) → List ℕ → List Piece → Result (List Token) Bad
tokens_in dialect names bytes [] = Ok (token_at s.End (length bytes) (length bytes) ∷ [])
tokens_in dialect names bytes (p ∷ others) = adds names bytes p (meaning dialect p.text) (tokens_in dialect names bytes others)

-- The tokens of a text, or where and why it is refused. `names` has the texts of the numbers.
unfoldable pub tokens_of : Dialect → List (List ℕ) → List ℕ → Result (List Token) Bad
tokens_of dialect names bytes = tokens_in dialect names bytes (pieces dialect bytes)

-- the table after a text was looked up that gets the next number where it is new
unfoldable pub with_text : List (List ℕ) → List ℕ → List (List ℕ)
with_text names text = if is_some (position (bytes_eq text) names) then names else names ++ text ∷ []

abbrev pub gains : List (List ℕ) → List ℕ → Spelling → List (List ℕ)
gains names text (token word) = with_text names text
gains names text (token integer) = with_text names text
gains names text (token floating) = with_text names text
gains names text (token character) = with_text names text
gains names text (token string) = with_text names text
gains names text _ = names

unfoldable pub gained_in : Dialect → List (List ℕ) → List Piece → List (List ℕ)
gained_in dialect names [] = names
gained_in dialect names (p ∷ others) = gained_in dialect (gains names p.text (meaning dialect p.text)) others

-- the table after the texts of the words, constants and literals of a text were looked up, in their order
unfoldable pub gained : Dialect → List (List ℕ) → List ℕ → List (List ℕ)
gained dialect names bytes = gained_in dialect names (pieces dialect bytes)

-- the texts of a table stay at their places, and others may follow
pub record Keeps (old new : List (List ℕ)) : Type 0 where
  pub more : List (List ℕ)
  pub same : new ≡ old ++ more

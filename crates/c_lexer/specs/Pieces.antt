-- What the program's pieces say of a text.
use Rattle.std.specs.Prelude.{◌≡◌, ℕ, ◌<◌, List, take}
use Rattle.c_tokens.specs.declared.lexical.Dialect.{Dialect}
use Rattle.c_tokens.specs.Tokens.{longest, meaning}
use Rattle.c_lexer.specs.declared.piece.Piece.{Piece}
use Rattle.c_lexer.specs.Meanings.{spelling_by}

-- the piece is the longest spelling with which the text begins
pub record Describes (dialect : Dialect) (text : List ℕ) (piece : Piece) : Type 0 where
  pub some : 0 < piece.length
  pub length : piece.length ≡ longest dialect text
  pub meaning : spelling_by piece.meaning ≡ meaning dialect (take piece.length text)

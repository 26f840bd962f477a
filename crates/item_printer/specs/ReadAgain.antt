-- Texts that are read as the items that they were printed from.
use Rattle.std.specs.Prelude.{◌≡◌, ℕ, ◌+◌, List, length, map, Ok}
use Rattle.c_tokens.specs.declared.lexical.Dialect.TheVariants.{C90}
use Rattle.c_tokens.specs.declared.token.Token.{Token}
use Rattle.c_tokens.specs.Tokens.{tokens_of}
use Rattle.c_forms.specs.Forests.{Plain}
use Rattle.c_reader.specs.Tokens.{spot}
use Rattle.scope_tables.specs.Frames.{Frame}
use Rattle.printed_items.specs.Respelled.{file_start, AreRespelled}

-- The tokens of a text before its end spell items that are equal to these but for their spans, and no others, with so much
-- depth; and lead to these scopes.
pub record IsReadAgain (names : List (List ℕ)) (bytes : List ℕ) (depth : ℕ) (items : List Plain) (after : List Frame) : Type 0 where
  pub tokens : List Token
  pub end : ℕ
  pub lexed : tokens_of C90 names bytes ≡ Ok tokens
  pub before_end : length tokens ≡ end + 1
  pub spelled : AreRespelled depth (map (λ t. t.shape) tokens) items (spot 0 file_start) end after

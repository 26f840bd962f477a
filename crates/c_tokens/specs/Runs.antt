-- How spellings begin, and how far a word or a number reaches.
use Rattle.std.specs.Prelude.{◌≡◌, ℕ, ◌+◌, Bool, true, false, not, List, [], ◌∷◌, Option, Some, None, ◌&&◌, ◌||◌, nat_eq, if◌then◌else◌}
use Rattle.std.specs.List.{prefix_len, starts_with}
use Rattle.c_tokens.specs.Bytes.{is_digit, is_letter, is_word_byte, is_white_space, is_sign, is_exponent_mark}
use Rattle.c_tokens.specs.declared.lexical.Dialect.{Dialect}
use Rattle.c_tokens.specs.Constants.{starts_with_digit}
use Rattle.c_tokens.specs.Literals.{starts_literal}
use Rattle.c_tokens.specs.Skipped.{starts_with_byte, starts_comment, starts_directive}
use Rattle.c_tokens.specs.Spelling.{Table}

-- how many bytes of a text go on a word
abbrev pub word_run : List ℕ → ℕ
word_run text = prefix_len is_word_byte text

-- how many bytes of a text go on a number, after a byte
unfoldable pub number_run : ℕ → List ℕ → ℕ
number_run before [] = 0
number_run before (b ∷ rest) = if is_word_byte b || nat_eq b 46 || (is_sign b && is_exponent_mark before) then 1 + number_run b rest else 0

unfoldable pub starts_with_letter : List ℕ → Bool
starts_with_letter [] = false
starts_with_letter (b ∷ _) = is_letter b

unfoldable pub starts_white : List ℕ → Bool
starts_white [] = false
starts_white (b ∷ _) = is_white_space b

unfoldable pub starts_number : List ℕ → Bool
starts_number [] = false
starts_number (b ∷ rest) = is_digit b || (nat_eq b 46 && starts_with_digit rest)

-- a letter after `@`
unfoldable pub starts_after_at : List ℕ → Bool
starts_after_at [] = false
starts_after_at (b ∷ rest) = nat_eq b 64 && starts_with_letter rest

-- a letter after a backquote and `@`
unfoldable pub starts_after_backquote : List ℕ → Bool
starts_after_backquote [] = false
starts_after_backquote (b ∷ rest) = nat_eq b 96 && starts_after_at rest

-- none of the other kinds of spellings begins here
unfoldable pub starts_sign : List ℕ → Bool
starts_sign [] = false
starts_sign (b ∷ rest) =
    not (is_letter b) && not (is_white_space b) && not (starts_number (b ∷ rest)) && not (starts_after_at (b ∷ rest)) && not (starts_after_backquote (b ∷ rest))

-- the first entry of a table with which a text starts
unfoldable pub first_prefix : {A : Type 0} → List ℕ → Table A → Option (List ℕ × A)
first_prefix text [] = None
first_prefix text (entry ∷ others) = if starts_with nat_eq text entry.0 then Some entry else first_prefix text others

-- whether a literal, a comment or a directive begins
unfoldable pub opens : Dialect → List ℕ → Bool
opens dialect text = starts_literal text || starts_comment text || starts_directive dialect text

-- a directive begins
pub record OpensLine (dialect : Dialect) (text : List ℕ) : Type 0 where
  pub no_literal : starts_literal text ≡ false
  pub no_comment : starts_comment text ≡ false
  pub directive : starts_directive dialect text ≡ true

-- `<:`, `:>`, `<%`, `%>` or `%:`
unfoldable pub starts_other : List ℕ → Bool
starts_other [] = false
starts_other (b ∷ rest) =
    (nat_eq b 60 && (starts_with_byte 58 rest || starts_with_byte 37 rest)) || (nat_eq b 58 && starts_with_byte 62 rest) || (nat_eq b 37 && (starts_with_byte 62 rest || starts_with_byte 58 rest))

-- a text in which these stand nowhere
unfoldable pub has_no_other : List ℕ → Bool
has_no_other [] = true
has_no_other (b ∷ rest) = not (starts_other (b ∷ rest)) && has_no_other rest

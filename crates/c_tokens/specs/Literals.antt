-- Where a literal ends, and what spoils it (ISO/IEC 9899:1990, 6.1.3.4 and 6.1.4).
use Rattle.std.specs.Prelude.{ℕ, zero, suc, ◌+◌, ◌-◌, Bool, false, ◌&&◌, ◌||◌, not, List, [], ◌∷◌, length, take, drop, reverse, get_or, nat_eq, if◌then◌else◌}
use Rattle.std.specs.List.{prefix_len}
use Rattle.c_tokens.specs.declared.token.TheConstants.{MAX_LITERAL_BYTES}
use Rattle.c_tokens.specs.declared.lexical.LexCause.{LexCause}
use Rattle.c_tokens.specs.declared.lexical.LexCause.TheVariants as cause
use Rattle.c_tokens.specs.Bytes.{is_octal, is_quote, is_backslash, is_simple_escape}
use Rattle.c_tokens.specs.Constants.{starts_with_hexadecimal}

unfoldable pub starts_with_quote : List ℕ → Bool
starts_with_quote [] = false
starts_with_quote (b ∷ _) = is_quote b

-- `L` before a quote
unfoldable pub starts_wide : List ℕ → Bool
starts_wide [] = false
starts_wide (b ∷ rest) = nat_eq b 76 && starts_with_quote rest

-- a quote, with or without `L` before it
unfoldable pub starts_literal : List ℕ → Bool
starts_literal text = starts_with_quote text || starts_wide text

-- where the contents of a literal begin
unfoldable pub contents_start : List ℕ → ℕ
contents_start text = if starts_wide text then 2 else 1

unfoldable pub is_odd : ℕ → Bool
is_odd zero = false
is_odd (suc n) = not (is_odd n)

-- The byte at a place belongs to an escape that begins at the byte before: an odd number of backslashes stands
-- directly before it.
unfoldable pub is_escaped : List ℕ → ℕ → Bool
is_escaped text i = is_odd (prefix_len is_backslash (reverse (take i text)))

-- what may follow a backslash: a simple escape, an octal digit, or `x` and a hexadecimal digit
unfoldable pub starts_escape : List ℕ → Bool
starts_escape [] = false
starts_escape (b ∷ rest) = is_simple_escape b || is_octal b || (nat_eq b 120 && starts_with_hexadecimal rest)

-- a backslash that is no part of the escape before it and begins none
unfoldable pub is_bad_escape : List ℕ → ℕ → Bool
is_bad_escape text i = is_backslash (get_or text i 0) && not (is_escaped text i) && not (starts_escape (drop (i + 1) text))

-- what is met at a byte of a literal
pub data Met : Type 0 where
  inside : Met
  closing : Met
  spoiled : LexCause → Met

-- What is met at a byte of a literal in this quote. Where two causes are met, the first one counts.
unfoldable pub met : ℕ → List ℕ → ℕ → Met
met quote text i =
    if is_bad_escape text i then spoiled cause.BadEscape
    else if nat_eq (get_or text i 0) 10 then spoiled cause.OpenLiteral
    else if nat_eq i MAX_LITERAL_BYTES then spoiled cause.LongLiteral
    else if nat_eq (get_or text i 0) quote && not (is_escaped text i) then closing
    else inside

-- a place, and what is met there
pub record Ending : Type 0 where
  pub place : ℕ
  pub found : Met

abbrev pub unless_inside : Met → ℕ → Ending → Ending
unless_inside inside i next = next
unless_inside m i next = record { place = i; found = m }

-- The first of some places, from one on, at which more is met than the inside of a literal. After these the text ends.
unfoldable pub first_met : ℕ → List ℕ → ℕ → ℕ → Ending
first_met quote text i zero = record { place = i; found = spoiled cause.OpenLiteral }
first_met quote text i (suc places) = unless_inside (met quote text i) i (first_met quote text (i + 1) places)

-- the quote of a literal
unfoldable pub quote_of : List ℕ → ℕ
quote_of text = get_or text (contents_start text - 1) 0

-- how a literal ends with which a text begins
unfoldable pub ending : List ℕ → Ending
ending text = first_met (quote_of text) text (contents_start text) (length text - contents_start text)

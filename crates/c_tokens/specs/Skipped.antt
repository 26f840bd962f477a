-- Comments and line markers, which are read as white space (ISO/IEC 9899:1990, 6.1.9 and 6.8.4).
use Rattle.std.specs.Prelude.{ℕ, suc, Bool, true, false, ◌&&◌, ◌||◌, List, [], ◌∷◌, take, drop, reverse, take_while, Option, Some, None, option_map, nat_eq, codes, bytes_eq, if◌then◌else◌}
use Rattle.std.specs.List.{list_all, prefix_len}
use Rattle.c_tokens.specs.declared.lexical.Dialect.{Dialect}
use Rattle.c_tokens.specs.declared.lexical.Dialect.TheVariants.{C90, C95}
use Rattle.c_tokens.specs.Bytes.{is_word_byte, is_white_space, is_no_line_feed, is_blank}
use Rattle.c_tokens.specs.Constants.{after, starts_with_digit}

unfoldable pub starts_with_byte : ℕ → List ℕ → Bool
starts_with_byte c [] = false
starts_with_byte c (b ∷ _) = nat_eq b c

-- `/*`
unfoldable pub starts_comment : List ℕ → Bool
starts_comment [] = false
starts_comment (b ∷ rest) = nat_eq b 47 && starts_with_byte 42 rest

-- the length of a text through its first `*/`
unfoldable pub through_close : List ℕ → Option ℕ
through_close [] = None
through_close (b ∷ rest) = if nat_eq b 42 && starts_with_byte 47 rest then Some 2 else option_map suc (through_close rest)

-- `%:`
unfoldable pub starts_percent_colon : List ℕ → Bool
starts_percent_colon [] = false
starts_percent_colon (b ∷ rest) = nat_eq b 37 && starts_with_byte 58 rest

abbrev pub is_c95 : Dialect → Bool
is_c95 C90 = false
is_c95 C95 = true

-- `#`, and in C95 also `%:`
unfoldable pub starts_directive : Dialect → List ℕ → Bool
starts_directive dialect text = starts_with_byte 35 text || (is_c95 dialect && starts_percent_colon text)

-- how many bytes of a text stand before its first line feed
unfoldable pub line_run : List ℕ → ℕ
line_run text = prefix_len is_no_line_feed text

-- a digit or the word `line`
unfoldable pub starts_marker_rest : List ℕ → Bool
starts_marker_rest text = starts_with_digit text || bytes_eq (take (prefix_len is_word_byte text) text) (codes "line")

-- what follows the `#` or `%:` of a line
unfoldable pub after_directive : List ℕ → List ℕ
after_directive text = drop (if starts_with_byte 35 text then 1 else 2) text

-- after `#` or `%:` come spaces and tabs, and then a digit or the word `line`
unfoldable pub is_marker_line : List ℕ → Bool
is_marker_line line = starts_marker_rest (after is_blank (after_directive line))

-- whether only white space stands on its line before a place
unfoldable pub stands_first : List ℕ → ℕ → Bool
stands_first bytes at = list_all is_white_space (take_while is_no_line_feed (reverse (take at bytes)))

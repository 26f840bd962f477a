-- Kinds of bytes, in ASCII.
use Rattle.std.specs.Prelude.{ℕ, Bool, ◌&&◌, ◌||◌, not, nat_eq, nat_le}

abbrev pub is_within : ℕ → ℕ → ℕ → Bool
is_within least most b = nat_le least b && nat_le b most

-- 0 to 9
unfoldable pub is_digit : ℕ → Bool
is_digit b = is_within 48 57 b

-- A to Z, a to z and the underscore, with which a word may begin
unfoldable pub is_letter : ℕ → Bool
is_letter b = is_within 97 122 b || is_within 65 90 b || nat_eq b 95

unfoldable pub is_word_byte : ℕ → Bool
is_word_byte b = is_letter b || is_digit b

-- tab, line feed, vertical tab, form feed, carriage return (9 to 13) and space
unfoldable pub is_white_space : ℕ → Bool
is_white_space b = is_within 9 13 b || nat_eq b 32

-- + and -
unfoldable pub is_sign : ℕ → Bool
is_sign b = nat_eq b 43 || nat_eq b 45

-- e and E
unfoldable pub is_exponent_mark : ℕ → Bool
is_exponent_mark b = nat_eq b 101 || nat_eq b 69

-- 0 to 7
unfoldable pub is_octal : ℕ → Bool
is_octal b = is_within 48 55 b

-- 0 to 9, A to F and a to f
unfoldable pub is_hexadecimal : ℕ → Bool
is_hexadecimal b = is_digit b || is_within 65 70 b || is_within 97 102 b

-- x and X
unfoldable pub is_hexadecimal_mark : ℕ → Bool
is_hexadecimal_mark b = nat_eq b 120 || nat_eq b 88

-- u and U
unfoldable pub is_unsigned_suffix : ℕ → Bool
is_unsigned_suffix b = nat_eq b 117 || nat_eq b 85

-- l and L
unfoldable pub is_long_suffix : ℕ → Bool
is_long_suffix b = nat_eq b 108 || nat_eq b 76

-- f and F
unfoldable pub is_float_suffix : ℕ → Bool
is_float_suffix b = nat_eq b 102 || nat_eq b 70

-- " and '
unfoldable pub is_quote : ℕ → Bool
is_quote b = nat_eq b 34 || nat_eq b 39

unfoldable pub is_backslash : ℕ → Bool
is_backslash b = nat_eq b 92

-- ' " ? \ a b f n r t and v, which a backslash may precede
unfoldable pub is_simple_escape : ℕ → Bool
is_simple_escape b =
    is_quote b || nat_eq b 63 || nat_eq b 92 || nat_eq b 97 || nat_eq b 98 || nat_eq b 102 || nat_eq b 110 || nat_eq b 114 || nat_eq b 116 || nat_eq b 118

unfoldable pub is_no_line_feed : ℕ → Bool
is_no_line_feed b = not (nat_eq b 10)

-- space and tab
unfoldable pub is_blank : ℕ → Bool
is_blank b = nat_eq b 32 || nat_eq b 9

-- Which whole texts are constants of numbers (ISO/IEC 9899:1990, 6.1.3.1 and 6.1.3.2).
use Rattle.std.specs.Prelude.{ℕ, Bool, true, false, ◌&&◌, ◌||◌, List, [], ◌∷◌, drop, nat_eq, if◌then◌else◌}
use Rattle.std.specs.List.{prefix_len}
use Rattle.c_tokens.specs.Bytes.{is_digit, is_octal, is_hexadecimal, is_hexadecimal_mark, is_sign, is_exponent_mark, is_unsigned_suffix, is_long_suffix, is_float_suffix}

-- a text without the bytes of a kind with which it begins
abbrev pub after : (ℕ → Bool) → List ℕ → List ℕ
after kind text = drop (prefix_len kind text) text

unfoldable pub starts_with_digit : List ℕ → Bool
starts_with_digit [] = false
starts_with_digit (b ∷ _) = is_digit b

unfoldable pub starts_with_hexadecimal : List ℕ → Bool
starts_with_hexadecimal [] = false
starts_with_hexadecimal (b ∷ _) = is_hexadecimal b

-- at most one of u and U, and at most one of l and L, in either order
unfoldable pub is_integer_suffix : List ℕ → Bool
is_integer_suffix [] = true
is_integer_suffix (a ∷ []) = is_unsigned_suffix a || is_long_suffix a
is_integer_suffix (a ∷ b ∷ []) = (is_unsigned_suffix a && is_long_suffix b) || (is_long_suffix a && is_unsigned_suffix b)
is_integer_suffix _ = false

-- x or X, one or more hexadecimal digits, and a suffix
unfoldable pub is_hexadecimal_rest : List ℕ → Bool
is_hexadecimal_rest [] = false
is_hexadecimal_rest (x ∷ rest) = is_hexadecimal_mark x && starts_with_hexadecimal rest && is_integer_suffix (after is_hexadecimal rest)

-- A decimal constant without leading 0, or a 0 and either octal digits or a hexadecimal rest; and a suffix.
unfoldable pub is_integer : List ℕ → Bool
is_integer [] = false
is_integer (b ∷ rest) =
    if nat_eq b 48 then is_hexadecimal_rest rest || is_integer_suffix (after is_octal rest) else is_digit b && is_integer_suffix (after is_digit rest)

-- at most one of f, F, l and L
unfoldable pub is_floating_suffix : List ℕ → Bool
is_floating_suffix [] = true
is_floating_suffix (a ∷ []) = is_float_suffix a || is_long_suffix a
is_floating_suffix _ = false

-- a text without the sign with which it may begin
unfoldable pub after_sign : List ℕ → List ℕ
after_sign [] = []
after_sign (b ∷ rest) = if is_sign b then rest else b ∷ rest

-- one or more digits and a suffix
unfoldable pub is_last_digits : List ℕ → Bool
is_last_digits text = starts_with_digit text && is_floating_suffix (after is_digit text)

-- e or E, perhaps a sign, digits, and a suffix
unfoldable pub is_exponent : List ℕ → Bool
is_exponent [] = false
is_exponent (b ∷ rest) = is_exponent_mark b && is_last_digits (after_sign rest)

-- A point, digits, perhaps an exponent, and a suffix. There is a digit before the point or after it.
unfoldable pub is_fraction : Bool → List ℕ → Bool
is_fraction digits [] = false
is_fraction digits (b ∷ rest) =
    nat_eq b 46 && (digits || starts_with_digit rest) && (is_floating_suffix (after is_digit rest) || is_exponent (after is_digit rest))

-- digits with a point, or digits with an exponent, or both; and a suffix
unfoldable pub is_floating : List ℕ → Bool
is_floating text = is_fraction (starts_with_digit text) (after is_digit text) || (starts_with_digit text && is_exponent (after is_digit text))

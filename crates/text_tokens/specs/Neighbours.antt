-- Which tokens may stand side by side: none of the two goes on the other's spelling.
use Rattle.std.specs.Prelude.{◌≡◌, ℕ, Bool, true, false, not, ◌&&◌, ◌||◌, nat_eq, List, [], ◌∷◌, ◌++◌, get_or}
use Rattle.std.specs.List.{list_all, starts_with}
use Rattle.c_tokens.specs.declared.token.Punct.{Punct}
use Rattle.c_tokens.specs.declared.token.Punct.TheVariants as punct
use Rattle.c_tokens.specs.declared.token.Shape.{Shape}
use Rattle.c_tokens.specs.declared.token.Shape.TheVariants as s
use Rattle.c_tokens.specs.Bytes.{is_digit, is_sign}
use Rattle.c_tokens.specs.Spelling.{punctuators}
use Rattle.c_layout.specs.declared.marks.Use.{Use}
use Rattle.c_layout.specs.declared.marks.Use.TheVariants as use_as
use Rattle.c_layout.specs.declared.marks.Mark.{Mark}
use Rattle.c_layout.specs.declared.marks.Mark.TheVariants as mark
use Rattle.c_text.specs.Texts.{text_of_punct}
use Rattle.c_text.specs.Spacing.{is_close}

abbrev pub first_byte : Punct → ℕ
first_byte p = get_or (text_of_punct p) 0 0

abbrev pub is_dot : Punct → Bool
is_dot punct.Dot = true
is_dot _ = false

abbrev pub is_slash : Punct → Bool
is_slash punct.Slash = true
is_slash _ = false

-- no punctuator begins with a text
abbrev pub begins_none : List ℕ → Bool
begins_none text = list_all (λ entry. not (starts_with nat_eq entry.0 text)) punctuators

-- A byte after a punctuator makes no longer punctuator, opens no comment (6.1.9) and begins no constant (6.1.8).
abbrev pub ends_punct : Punct → ℕ → Bool
ends_punct p b = begins_none (text_of_punct p ++ b ∷ []) && not (is_slash p && nat_eq b 42) && not (is_dot p && is_digit b)

-- a byte after a number goes on a preprocessing number (6.1.8)
abbrev pub goes_on_number : ℕ → Bool
goes_on_number b = nat_eq b 46 || is_sign b

-- a punctuator after a keyword or a word
abbrev pub ends_word : Shape → Bool
ends_word (s.Punct q) = true
ends_word _ = false

-- a punctuator after a number
abbrev pub ends_number : Shape → Bool
ends_number (s.Punct q) = not (goes_on_number (first_byte q))
ends_number _ = false

-- a token after a punctuator; a number may begin with a point
abbrev pub ends_sign : Punct → Shape → Bool
ends_sign p (s.Punct q) = ends_punct p (first_byte q)
ends_sign p (s.Int n) = not (is_dot p)
ends_sign p (s.Float n) = not (is_dot p)
ends_sign p _ = true

-- The first of two tokens side by side is the longest spelling there (6.1), as far as their shapes tell.
abbrev pub is_apart : Shape → Shape → Bool
is_apart (s.Key k) b = ends_word b
is_apart (s.Word n) b = ends_word b
is_apart (s.Int n) b = ends_number b
is_apart (s.Float n) b = ends_number b
is_apart (s.Char n) b = true
is_apart (s.Str n) b = true
is_apart (s.Punct p) b = ends_sign p b
is_apart _ b = false

-- a token that stands right after another is apart from it
abbrev pub IsSet : Shape → Use → Shape → Use → Type 0
IsSet a u b v = is_close a u b v ≡ true → is_apart a b ≡ true

-- the mark after a token, if it is a token on the same line
abbrev pub NextIsSet : Shape → Use → List Mark → Type 0
NextIsSet a u [] = Unit {0}
NextIsSet a u (mark.Line depth ∷ ms) = Unit {0}
NextIsSet a u (mark.Token b v ∷ ms) = IsSet a u b v

-- of marks, each token on a line and the one before it
abbrev pub AllSet : List Mark → Type 0
AllSet [] = Unit {0}
AllSet (mark.Line depth ∷ ms) = AllSet ms
AllSet (mark.Token a u ∷ ms) = NextIsSet a u ms × AllSet ms

-- what may not stand right after a point: what begins with a point, and a number
abbrev pub goes_on_point : Shape → Bool
goes_on_point (s.Int n) = true
goes_on_point (s.Float n) = true
goes_on_point (s.Punct punct.Dot) = true
goes_on_point (s.Punct punct.Ellipsis) = true
goes_on_point _ = false

abbrev pub is_equal : Shape → Bool
is_equal (s.Punct punct.Equal) = true
is_equal (s.Punct punct.EqualEqual) = true
is_equal _ = false

-- `=` or `==` as a prefix operator, which C does not have
abbrev pub is_equal_prefix : Shape → Use → Bool
is_equal_prefix b use_as.Prefix = is_equal b
is_equal_prefix b _ = false

-- what begins with `-` and ends an operand
abbrev pub is_minus_suffix : Shape → Use → Bool
is_minus_suffix (s.Punct punct.Arrow) v = true
is_minus_suffix (s.Punct punct.MinusMinus) use_as.Postfix = true
is_minus_suffix _ _ = false

-- what begins with `+` and does
abbrev pub is_plus_suffix : Shape → Use → Bool
is_plus_suffix (s.Punct punct.PlusPlus) use_as.Postfix = true
is_plus_suffix _ _ = false

-- Pairs of tokens that would stand side by side and are not apart. In C none of them occurs: the name of a member follows
-- a point, and an operand comes before what ends one.
abbrev pub is_merged : Shape → Shape → Use → Bool
is_merged (s.Punct punct.Dot) b v = goes_on_point b
is_merged (s.Punct punct.Star) b v = is_equal_prefix b v
is_merged (s.Punct punct.Exclamation) b v = is_equal_prefix b v
is_merged (s.Punct punct.Minus) b v = is_minus_suffix b v
is_merged (s.Punct punct.Plus) b v = is_plus_suffix b v
is_merged _ b v = false

-- the mark after a token, if it is a token on the same line
abbrev pub NextIsFree : Shape → List Mark → Type 0
NextIsFree a [] = Unit {0}
NextIsFree a (mark.Line depth ∷ ms) = Unit {0}
NextIsFree a (mark.Token b v ∷ ms) = is_merged a b v ≡ false

-- no two neighbours among marks are such a pair
abbrev pub AllFree : List Mark → Type 0
AllFree [] = Unit {0}
AllFree (mark.Line depth ∷ ms) = AllFree ms
AllFree (mark.Token a u ∷ ms) = NextIsFree a ms × AllFree ms

-- Which neighbours on a line stand side by side.
use Rattle.std.specs.Prelude.{Bool, true, false, not, ◌&&◌, ◌||◌}
use Rattle.c_tokens.specs.declared.token.Punct.TheVariants as punct
use Rattle.c_tokens.specs.declared.token.Shape.{Shape}
use Rattle.c_tokens.specs.declared.token.Shape.TheVariants as s
use Rattle.c_layout.specs.declared.marks.Use.{Use}
use Rattle.c_layout.specs.declared.marks.Use.TheVariants as use_as

-- no space stands after an opening parenthesis or bracket
abbrev pub is_opening : Shape → Bool
is_opening (s.Punct punct.LeftParen) = true
is_opening (s.Punct punct.LeftBracket) = true
is_opening _ = false

-- and none before a bracket, a closing parenthesis, a comma or a semicolon
abbrev pub is_closing : Shape → Bool
is_closing (s.Punct punct.RightParen) = true
is_closing (s.Punct punct.RightBracket) = true
is_closing (s.Punct punct.Comma) = true
is_closing (s.Punct punct.Semicolon) = true
is_closing (s.Punct punct.LeftBracket) = true
is_closing _ = false

abbrev pub is_left_paren : Shape → Bool
is_left_paren (s.Punct punct.LeftParen) = true
is_left_paren _ = false

abbrev pub is_colon : Shape → Bool
is_colon (s.Punct punct.Colon) = true
is_colon _ = false

abbrev pub is_step : Shape → Bool
is_step (s.Punct punct.PlusPlus) = true
is_step (s.Punct punct.MinusMinus) = true
is_step _ = false

abbrev pub is_star : Shape → Bool
is_star (s.Punct punct.Star) = true
is_star _ = false

abbrev pub is_punct : Shape → Bool
is_punct (s.Punct p) = true
is_punct _ = false

abbrev pub is_member_sign : Shape → Bool
is_member_sign (s.Punct punct.Dot) = true
is_member_sign (s.Punct punct.Arrow) = true
is_member_sign _ = false

abbrev pub is_number : Shape → Bool
is_number (s.Int n) = true
is_number (s.Float n) = true
is_number _ = false

-- a word, a constant, a string or `(`
abbrev pub is_operand_start : Shape → Bool
is_operand_start (s.Word n) = true
is_operand_start (s.Int n) = true
is_operand_start (s.Float n) = true
is_operand_start (s.Char n) = true
is_operand_start (s.Str n) = true
is_operand_start (s.Punct punct.LeftParen) = true
is_operand_start _ = false

-- `*`, `!` or `~`, which begin no longer token
abbrev pub is_short_operator : Shape → Bool
is_short_operator (s.Punct punct.Star) = true
is_short_operator (s.Punct punct.Exclamation) = true
is_short_operator (s.Punct punct.Tilde) = true
is_short_operator _ = false

-- the `(` of a call or of a function declarator
abbrev pub is_call_paren : Shape → Use → Bool
is_call_paren a use_as.CallParen = is_left_paren a
is_call_paren a _ = false

-- the `:` of a label, `case` or `default`
abbrev pub is_label_colon : Shape → Use → Bool
is_label_colon a use_as.LabelColon = is_colon a
is_label_colon a _ = false

-- a postfix `++` or `--`
abbrev pub is_postfix : Shape → Use → Bool
is_postfix a use_as.Postfix = is_step a
is_postfix a _ = false

-- a prefix operator or the `*` of a pointer declarator
abbrev pub is_leading : Shape → Use → Bool
is_leading a use_as.Prefix = is_punct a
is_leading a use_as.Pointer = is_star a
is_leading a _ = false

-- a token after a prefix operator or a pointer's `*`
abbrev pub is_close_operand : Shape → Shape → Use → Bool
is_close_operand a b v = is_operand_start b || (is_short_operator a && is_leading b v)

-- a member's sign or a postfix operator: a number before it keeps its distance
abbrev pub is_trailing : Shape → Use → Bool
is_trailing b v = is_member_sign b || is_postfix b v

-- whether a token stands right after another on its line
abbrev pub is_close : Shape → Use → Shape → Use → Bool
is_close a u b v =
    is_opening a || is_member_sign a || is_closing b || is_call_paren b v || is_label_colon b v
    || (is_leading a u && is_close_operand a b v) || (is_trailing b v && not (is_number a))

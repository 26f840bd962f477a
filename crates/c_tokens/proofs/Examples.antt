-- Worked rows of the definition of the tokens.
use Rattle.std.proofs.Common.{◌≡◌, refl, codes, [], ◌∷◌, Ok}
use Rattle.c_tokens.specs.declared.lexical.Dialect.TheVariants.{C90, C95}
use Rattle.c_tokens.specs.declared.lexical.LexCause.TheVariants as cause
use Rattle.c_tokens.specs.declared.token.Key.TheVariants as k
use Rattle.c_tokens.specs.declared.token.Punct.TheVariants as p
use Rattle.c_tokens.specs.declared.token.Mark.TheVariants as m
use Rattle.c_tokens.specs.declared.token.Shape.TheVariants as s
use Rattle.c_tokens.specs.Bytes.{is_digit, is_letter, is_word_byte, is_white_space, is_sign, is_exponent_mark, is_octal, is_hexadecimal, is_hexadecimal_mark, is_unsigned_suffix, is_long_suffix, is_float_suffix, is_quote, is_backslash, is_simple_escape, is_no_line_feed, is_blank}
use Rattle.c_tokens.specs.Constants.{starts_with_digit, starts_with_hexadecimal, is_integer_suffix, is_hexadecimal_rest, is_integer, is_floating_suffix, after_sign, is_last_digits, is_exponent, is_fraction, is_floating}
use Rattle.c_tokens.specs.Literals.{starts_with_quote, starts_wide, starts_literal, contents_start, is_odd, is_escaped, starts_escape, is_bad_escape, met, first_met, quote_of, ending}
use Rattle.c_tokens.specs.Skipped.{starts_with_byte, starts_comment, through_close, starts_percent_colon, starts_directive, line_run, starts_marker_rest, after_directive, is_marker_line, stands_first}
use Rattle.c_tokens.specs.Spelling.{find_text, keywords, punctuators, word_marks, sign_marks, other_punctuators, is_word, is_word_after_at, is_marked_word, goes_on_number, is_number, is_space, word_spelling, number_spelling, literal_spelling, comment_spelling, directive_spelling, stray_spelling, sign_spelling, plain_spelling, spelling_of}
use Rattle.c_tokens.specs.Tokens.{longest_up_to, longest, meaning, pieces_from, pieces, number_in, tokens_in, tokens_of, with_text, gained_in, gained, token_at, bad}

-- a backslash begins nothing
stray : tokens_of C90 [] (codes "a \\") ≡ bad 2 cause.StrayByte
unfolding longest_up_to longest meaning pieces_from pieces number_in tokens_in tokens_of with_text gained_in gained find_text keywords punctuators word_marks sign_marks other_punctuators is_word is_word_after_at is_marked_word goes_on_number is_number is_space word_spelling number_spelling literal_spelling comment_spelling directive_spelling stray_spelling sign_spelling plain_spelling spelling_of starts_with_byte starts_comment through_close starts_percent_colon starts_directive line_run starts_marker_rest after_directive is_marker_line stands_first starts_with_quote starts_wide starts_literal contents_start is_odd is_escaped starts_escape is_bad_escape met first_met quote_of ending starts_with_digit starts_with_hexadecimal is_integer_suffix is_hexadecimal_rest is_integer is_floating_suffix after_sign is_last_digits is_exponent is_fraction is_floating is_digit is_letter is_word_byte is_white_space is_sign is_exponent_mark is_octal is_hexadecimal is_hexadecimal_mark is_unsigned_suffix is_long_suffix is_float_suffix is_quote is_backslash is_simple_escape is_no_line_feed is_blank
stray = refl

-- the longest spelling, not two
increment : tokens_of C90 [] (codes "++") ≡ Ok (token_at (s.Punct p.PlusPlus) 0 2 ∷ token_at s.End 2 2 ∷ [])
unfolding longest_up_to longest meaning pieces_from pieces number_in tokens_in tokens_of with_text gained_in gained find_text keywords punctuators word_marks sign_marks other_punctuators is_word is_word_after_at is_marked_word goes_on_number is_number is_space word_spelling number_spelling literal_spelling comment_spelling directive_spelling stray_spelling sign_spelling plain_spelling spelling_of starts_with_byte starts_comment through_close starts_percent_colon starts_directive line_run starts_marker_rest after_directive is_marker_line stands_first starts_with_quote starts_wide starts_literal contents_start is_odd is_escaped starts_escape is_bad_escape met first_met quote_of ending starts_with_digit starts_with_hexadecimal is_integer_suffix is_hexadecimal_rest is_integer is_floating_suffix after_sign is_last_digits is_exponent is_fraction is_floating is_digit is_letter is_word_byte is_white_space is_sign is_exponent_mark is_octal is_hexadecimal is_hexadecimal_mark is_unsigned_suffix is_long_suffix is_float_suffix is_quote is_backslash is_simple_escape is_no_line_feed is_blank
increment = refl

-- a space parts them
two_pluses : tokens_of C90 [] (codes "+ +") ≡ Ok (token_at (s.Punct p.Plus) 0 1 ∷ token_at (s.Punct p.Plus) 2 3 ∷ token_at s.End 3 3 ∷ [])
unfolding longest_up_to longest meaning pieces_from pieces number_in tokens_in tokens_of with_text gained_in gained find_text keywords punctuators word_marks sign_marks other_punctuators is_word is_word_after_at is_marked_word goes_on_number is_number is_space word_spelling number_spelling literal_spelling comment_spelling directive_spelling stray_spelling sign_spelling plain_spelling spelling_of starts_with_byte starts_comment through_close starts_percent_colon starts_directive line_run starts_marker_rest after_directive is_marker_line stands_first starts_with_quote starts_wide starts_literal contents_start is_odd is_escaped starts_escape is_bad_escape met first_met quote_of ending starts_with_digit starts_with_hexadecimal is_integer_suffix is_hexadecimal_rest is_integer is_floating_suffix after_sign is_last_digits is_exponent is_fraction is_floating is_digit is_letter is_word_byte is_white_space is_sign is_exponent_mark is_octal is_hexadecimal is_hexadecimal_mark is_unsigned_suffix is_long_suffix is_float_suffix is_quote is_backslash is_simple_escape is_no_line_feed is_blank
two_pluses = refl

-- a constant has the number of its text
constant : tokens_of C90 (codes "10" ∷ []) (codes "10") ≡ Ok (token_at (s.Int (record { 0 = 0 })) 0 2 ∷ token_at s.End 2 2 ∷ [])
unfolding longest_up_to longest meaning pieces_from pieces number_in tokens_in tokens_of with_text gained_in gained find_text keywords punctuators word_marks sign_marks other_punctuators is_word is_word_after_at is_marked_word goes_on_number is_number is_space word_spelling number_spelling literal_spelling comment_spelling directive_spelling stray_spelling sign_spelling plain_spelling spelling_of starts_with_byte starts_comment through_close starts_percent_colon starts_directive line_run starts_marker_rest after_directive is_marker_line stands_first starts_with_quote starts_wide starts_literal contents_start is_odd is_escaped starts_escape is_bad_escape met first_met quote_of ending starts_with_digit starts_with_hexadecimal is_integer_suffix is_hexadecimal_rest is_integer is_floating_suffix after_sign is_last_digits is_exponent is_fraction is_floating is_digit is_letter is_word_byte is_white_space is_sign is_exponent_mark is_octal is_hexadecimal is_hexadecimal_mark is_unsigned_suffix is_long_suffix is_float_suffix is_quote is_backslash is_simple_escape is_no_line_feed is_blank
constant = refl

-- a suffix in either order
suffixed : tokens_of C90 (codes "1LU" ∷ []) (codes "1LU") ≡ Ok (token_at (s.Int (record { 0 = 0 })) 0 3 ∷ token_at s.End 3 3 ∷ [])
unfolding longest_up_to longest meaning pieces_from pieces number_in tokens_in tokens_of with_text gained_in gained find_text keywords punctuators word_marks sign_marks other_punctuators is_word is_word_after_at is_marked_word goes_on_number is_number is_space word_spelling number_spelling literal_spelling comment_spelling directive_spelling stray_spelling sign_spelling plain_spelling spelling_of starts_with_byte starts_comment through_close starts_percent_colon starts_directive line_run starts_marker_rest after_directive is_marker_line stands_first starts_with_quote starts_wide starts_literal contents_start is_odd is_escaped starts_escape is_bad_escape met first_met quote_of ending starts_with_digit starts_with_hexadecimal is_integer_suffix is_hexadecimal_rest is_integer is_floating_suffix after_sign is_last_digits is_exponent is_fraction is_floating is_digit is_letter is_word_byte is_white_space is_sign is_exponent_mark is_octal is_hexadecimal is_hexadecimal_mark is_unsigned_suffix is_long_suffix is_float_suffix is_quote is_backslash is_simple_escape is_no_line_feed is_blank
suffixed = refl

-- a sign after e is part of a number
exponent : tokens_of C90 [] (codes " 0xe+1") ≡ bad 1 cause.BadNumber
unfolding longest_up_to longest meaning pieces_from pieces number_in tokens_in tokens_of with_text gained_in gained find_text keywords punctuators word_marks sign_marks other_punctuators is_word is_word_after_at is_marked_word goes_on_number is_number is_space word_spelling number_spelling literal_spelling comment_spelling directive_spelling stray_spelling sign_spelling plain_spelling spelling_of starts_with_byte starts_comment through_close starts_percent_colon starts_directive line_run starts_marker_rest after_directive is_marker_line stands_first starts_with_quote starts_wide starts_literal contents_start is_odd is_escaped starts_escape is_bad_escape met first_met quote_of ending starts_with_digit starts_with_hexadecimal is_integer_suffix is_hexadecimal_rest is_integer is_floating_suffix after_sign is_last_digits is_exponent is_fraction is_floating is_digit is_letter is_word_byte is_white_space is_sign is_exponent_mark is_octal is_hexadecimal is_hexadecimal_mark is_unsigned_suffix is_long_suffix is_float_suffix is_quote is_backslash is_simple_escape is_no_line_feed is_blank
exponent = refl

-- 8 is no octal digit
octal : tokens_of C90 [] (codes "08") ≡ bad 0 cause.BadNumber
unfolding longest_up_to longest meaning pieces_from pieces number_in tokens_in tokens_of with_text gained_in gained find_text keywords punctuators word_marks sign_marks other_punctuators is_word is_word_after_at is_marked_word goes_on_number is_number is_space word_spelling number_spelling literal_spelling comment_spelling directive_spelling stray_spelling sign_spelling plain_spelling spelling_of starts_with_byte starts_comment through_close starts_percent_colon starts_directive line_run starts_marker_rest after_directive is_marker_line stands_first starts_with_quote starts_wide starts_literal contents_start is_odd is_escaped starts_escape is_bad_escape met first_met quote_of ending starts_with_digit starts_with_hexadecimal is_integer_suffix is_hexadecimal_rest is_integer is_floating_suffix after_sign is_last_digits is_exponent is_fraction is_floating is_digit is_letter is_word_byte is_white_space is_sign is_exponent_mark is_octal is_hexadecimal is_hexadecimal_mark is_unsigned_suffix is_long_suffix is_float_suffix is_quote is_backslash is_simple_escape is_no_line_feed is_blank
octal = refl

-- one l at most
two_longs : tokens_of C90 [] (codes "1ll") ≡ bad 0 cause.BadNumber
unfolding longest_up_to longest meaning pieces_from pieces number_in tokens_in tokens_of with_text gained_in gained find_text keywords punctuators word_marks sign_marks other_punctuators is_word is_word_after_at is_marked_word goes_on_number is_number is_space word_spelling number_spelling literal_spelling comment_spelling directive_spelling stray_spelling sign_spelling plain_spelling spelling_of starts_with_byte starts_comment through_close starts_percent_colon starts_directive line_run starts_marker_rest after_directive is_marker_line stands_first starts_with_quote starts_wide starts_literal contents_start is_odd is_escaped starts_escape is_bad_escape met first_met quote_of ending starts_with_digit starts_with_hexadecimal is_integer_suffix is_hexadecimal_rest is_integer is_floating_suffix after_sign is_last_digits is_exponent is_fraction is_floating is_digit is_letter is_word_byte is_white_space is_sign is_exponent_mark is_octal is_hexadecimal is_hexadecimal_mark is_unsigned_suffix is_long_suffix is_float_suffix is_quote is_backslash is_simple_escape is_no_line_feed is_blank
two_longs = refl

-- a floating constant without digits before the point
floating_point : tokens_of C90 (codes ".5e+1f" ∷ []) (codes ".5e+1f") ≡ Ok (token_at (s.Float (record { 0 = 0 })) 0 6 ∷ token_at s.End 6 6 ∷ [])
unfolding longest_up_to longest meaning pieces_from pieces number_in tokens_in tokens_of with_text gained_in gained find_text keywords punctuators word_marks sign_marks other_punctuators is_word is_word_after_at is_marked_word goes_on_number is_number is_space word_spelling number_spelling literal_spelling comment_spelling directive_spelling stray_spelling sign_spelling plain_spelling spelling_of starts_with_byte starts_comment through_close starts_percent_colon starts_directive line_run starts_marker_rest after_directive is_marker_line stands_first starts_with_quote starts_wide starts_literal contents_start is_odd is_escaped starts_escape is_bad_escape met first_met quote_of ending starts_with_digit starts_with_hexadecimal is_integer_suffix is_hexadecimal_rest is_integer is_floating_suffix after_sign is_last_digits is_exponent is_fraction is_floating is_digit is_letter is_word_byte is_white_space is_sign is_exponent_mark is_octal is_hexadecimal is_hexadecimal_mark is_unsigned_suffix is_long_suffix is_float_suffix is_quote is_backslash is_simple_escape is_no_line_feed is_blank
floating_point = refl

-- an exponent has digits
no_exponent : tokens_of C90 [] (codes ".5e+") ≡ bad 0 cause.BadNumber
unfolding longest_up_to longest meaning pieces_from pieces number_in tokens_in tokens_of with_text gained_in gained find_text keywords punctuators word_marks sign_marks other_punctuators is_word is_word_after_at is_marked_word goes_on_number is_number is_space word_spelling number_spelling literal_spelling comment_spelling directive_spelling stray_spelling sign_spelling plain_spelling spelling_of starts_with_byte starts_comment through_close starts_percent_colon starts_directive line_run starts_marker_rest after_directive is_marker_line stands_first starts_with_quote starts_wide starts_literal contents_start is_odd is_escaped starts_escape is_bad_escape met first_met quote_of ending starts_with_digit starts_with_hexadecimal is_integer_suffix is_hexadecimal_rest is_integer is_floating_suffix after_sign is_last_digits is_exponent is_fraction is_floating is_digit is_letter is_word_byte is_white_space is_sign is_exponent_mark is_octal is_hexadecimal is_hexadecimal_mark is_unsigned_suffix is_long_suffix is_float_suffix is_quote is_backslash is_simple_escape is_no_line_feed is_blank
no_exponent = refl

-- a keyword within a word is no keyword
keyword_in_word : tokens_of C90 (codes "x" ∷ codes "ifs" ∷ []) (codes "if ifs") ≡ Ok (token_at (s.Key k.If) 0 2 ∷ token_at (s.Word (record { 0 = 1 })) 3 6 ∷ token_at s.End 6 6 ∷ [])
unfolding longest_up_to longest meaning pieces_from pieces number_in tokens_in tokens_of with_text gained_in gained find_text keywords punctuators word_marks sign_marks other_punctuators is_word is_word_after_at is_marked_word goes_on_number is_number is_space word_spelling number_spelling literal_spelling comment_spelling directive_spelling stray_spelling sign_spelling plain_spelling spelling_of starts_with_byte starts_comment through_close starts_percent_colon starts_directive line_run starts_marker_rest after_directive is_marker_line stands_first starts_with_quote starts_wide starts_literal contents_start is_odd is_escaped starts_escape is_bad_escape met first_met quote_of ending starts_with_digit starts_with_hexadecimal is_integer_suffix is_hexadecimal_rest is_integer is_floating_suffix after_sign is_last_digits is_exponent is_fraction is_floating is_digit is_letter is_word_byte is_white_space is_sign is_exponent_mark is_octal is_hexadecimal is_hexadecimal_mark is_unsigned_suffix is_long_suffix is_float_suffix is_quote is_backslash is_simple_escape is_no_line_feed is_blank
keyword_in_word = refl

-- a mark of four signs
separator : tokens_of C90 [] (codes "$$+/") ≡ Ok (token_at (s.Mark m.OneOrMoreBetween) 0 4 ∷ token_at s.End 4 4 ∷ [])
unfolding longest_up_to longest meaning pieces_from pieces number_in tokens_in tokens_of with_text gained_in gained find_text keywords punctuators word_marks sign_marks other_punctuators is_word is_word_after_at is_marked_word goes_on_number is_number is_space word_spelling number_spelling literal_spelling comment_spelling directive_spelling stray_spelling sign_spelling plain_spelling spelling_of starts_with_byte starts_comment through_close starts_percent_colon starts_directive line_run starts_marker_rest after_directive is_marker_line stands_first starts_with_quote starts_wide starts_literal contents_start is_odd is_escaped starts_escape is_bad_escape met first_met quote_of ending starts_with_digit starts_with_hexadecimal is_integer_suffix is_hexadecimal_rest is_integer is_floating_suffix after_sign is_last_digits is_exponent is_fraction is_floating is_digit is_letter is_word_byte is_white_space is_sign is_exponent_mark is_octal is_hexadecimal is_hexadecimal_mark is_unsigned_suffix is_long_suffix is_float_suffix is_quote is_backslash is_simple_escape is_no_line_feed is_blank
separator = refl

-- the longest word after `@` decides
longer_mark : tokens_of C90 [] (codes "@syntaxx") ≡ bad 0 cause.BadMark
unfolding longest_up_to longest meaning pieces_from pieces number_in tokens_in tokens_of with_text gained_in gained find_text keywords punctuators word_marks sign_marks other_punctuators is_word is_word_after_at is_marked_word goes_on_number is_number is_space word_spelling number_spelling literal_spelling comment_spelling directive_spelling stray_spelling sign_spelling plain_spelling spelling_of starts_with_byte starts_comment through_close starts_percent_colon starts_directive line_run starts_marker_rest after_directive is_marker_line stands_first starts_with_quote starts_wide starts_literal contents_start is_odd is_escaped starts_escape is_bad_escape met first_met quote_of ending starts_with_digit starts_with_hexadecimal is_integer_suffix is_hexadecimal_rest is_integer is_floating_suffix after_sign is_last_digits is_exponent is_fraction is_floating is_digit is_letter is_word_byte is_white_space is_sign is_exponent_mark is_octal is_hexadecimal is_hexadecimal_mark is_unsigned_suffix is_long_suffix is_float_suffix is_quote is_backslash is_simple_escape is_no_line_feed is_blank
longer_mark = refl

-- a backquote that begins no mark
bare_mark : tokens_of C90 [] (codes "; `;") ≡ bad 2 cause.BadMark
unfolding longest_up_to longest meaning pieces_from pieces number_in tokens_in tokens_of with_text gained_in gained find_text keywords punctuators word_marks sign_marks other_punctuators is_word is_word_after_at is_marked_word goes_on_number is_number is_space word_spelling number_spelling literal_spelling comment_spelling directive_spelling stray_spelling sign_spelling plain_spelling spelling_of starts_with_byte starts_comment through_close starts_percent_colon starts_directive line_run starts_marker_rest after_directive is_marker_line stands_first starts_with_quote starts_wide starts_literal contents_start is_odd is_escaped starts_escape is_bad_escape met first_met quote_of ending starts_with_digit starts_with_hexadecimal is_integer_suffix is_hexadecimal_rest is_integer is_floating_suffix after_sign is_last_digits is_exponent is_fraction is_floating is_digit is_letter is_word_byte is_white_space is_sign is_exponent_mark is_octal is_hexadecimal is_hexadecimal_mark is_unsigned_suffix is_long_suffix is_float_suffix is_quote is_backslash is_simple_escape is_no_line_feed is_blank
bare_mark = refl

-- a mark after a backquote
quote : tokens_of C90 [] (codes "`@exp(") ≡ Ok (token_at (s.Mark m.QuoteExp) 0 5 ∷ token_at (s.Punct p.LeftParen) 5 6 ∷ token_at s.End 6 6 ∷ [])
unfolding longest_up_to longest meaning pieces_from pieces number_in tokens_in tokens_of with_text gained_in gained find_text keywords punctuators word_marks sign_marks other_punctuators is_word is_word_after_at is_marked_word goes_on_number is_number is_space word_spelling number_spelling literal_spelling comment_spelling directive_spelling stray_spelling sign_spelling plain_spelling spelling_of starts_with_byte starts_comment through_close starts_percent_colon starts_directive line_run starts_marker_rest after_directive is_marker_line stands_first starts_with_quote starts_wide starts_literal contents_start is_odd is_escaped starts_escape is_bad_escape met first_met quote_of ending starts_with_digit starts_with_hexadecimal is_integer_suffix is_hexadecimal_rest is_integer is_floating_suffix after_sign is_last_digits is_exponent is_fraction is_floating is_digit is_letter is_word_byte is_white_space is_sign is_exponent_mark is_octal is_hexadecimal is_hexadecimal_mark is_unsigned_suffix is_long_suffix is_float_suffix is_quote is_backslash is_simple_escape is_no_line_feed is_blank
quote = refl

-- `L` is a word elsewhere
letter : tokens_of C90 (codes "L" ∷ []) (codes "L") ≡ Ok (token_at (s.Word (record { 0 = 0 })) 0 1 ∷ token_at s.End 1 1 ∷ [])
unfolding longest_up_to longest meaning pieces_from pieces number_in tokens_in tokens_of with_text gained_in gained find_text keywords punctuators word_marks sign_marks other_punctuators is_word is_word_after_at is_marked_word goes_on_number is_number is_space word_spelling number_spelling literal_spelling comment_spelling directive_spelling stray_spelling sign_spelling plain_spelling spelling_of starts_with_byte starts_comment through_close starts_percent_colon starts_directive line_run starts_marker_rest after_directive is_marker_line stands_first starts_with_quote starts_wide starts_literal contents_start is_odd is_escaped starts_escape is_bad_escape met first_met quote_of ending starts_with_digit starts_with_hexadecimal is_integer_suffix is_hexadecimal_rest is_integer is_floating_suffix after_sign is_last_digits is_exponent is_fraction is_floating is_digit is_letter is_word_byte is_white_space is_sign is_exponent_mark is_octal is_hexadecimal is_hexadecimal_mark is_unsigned_suffix is_long_suffix is_float_suffix is_quote is_backslash is_simple_escape is_no_line_feed is_blank
letter = refl

-- `L` directly before a quote begins a literal
wide : tokens_of C90 (codes "L'a'" ∷ []) (codes "L'a'") ≡ Ok (token_at (s.Char (record { 0 = 0 })) 0 4 ∷ token_at s.End 4 4 ∷ [])
unfolding longest_up_to longest meaning pieces_from pieces number_in tokens_in tokens_of with_text gained_in gained find_text keywords punctuators word_marks sign_marks other_punctuators is_word is_word_after_at is_marked_word goes_on_number is_number is_space word_spelling number_spelling literal_spelling comment_spelling directive_spelling stray_spelling sign_spelling plain_spelling spelling_of starts_with_byte starts_comment through_close starts_percent_colon starts_directive line_run starts_marker_rest after_directive is_marker_line stands_first starts_with_quote starts_wide starts_literal contents_start is_odd is_escaped starts_escape is_bad_escape met first_met quote_of ending starts_with_digit starts_with_hexadecimal is_integer_suffix is_hexadecimal_rest is_integer is_floating_suffix after_sign is_last_digits is_exponent is_fraction is_floating is_digit is_letter is_word_byte is_white_space is_sign is_exponent_mark is_octal is_hexadecimal is_hexadecimal_mark is_unsigned_suffix is_long_suffix is_float_suffix is_quote is_backslash is_simple_escape is_no_line_feed is_blank
wide = refl

-- a character constant has characters
empty : tokens_of C90 [] (codes "; L''") ≡ bad 2 cause.EmptyChar
unfolding longest_up_to longest meaning pieces_from pieces number_in tokens_in tokens_of with_text gained_in gained find_text keywords punctuators word_marks sign_marks other_punctuators is_word is_word_after_at is_marked_word goes_on_number is_number is_space word_spelling number_spelling literal_spelling comment_spelling directive_spelling stray_spelling sign_spelling plain_spelling spelling_of starts_with_byte starts_comment through_close starts_percent_colon starts_directive line_run starts_marker_rest after_directive is_marker_line stands_first starts_with_quote starts_wide starts_literal contents_start is_odd is_escaped starts_escape is_bad_escape met first_met quote_of ending starts_with_digit starts_with_hexadecimal is_integer_suffix is_hexadecimal_rest is_integer is_floating_suffix after_sign is_last_digits is_exponent is_fraction is_floating is_digit is_letter is_word_byte is_white_space is_sign is_exponent_mark is_octal is_hexadecimal is_hexadecimal_mark is_unsigned_suffix is_long_suffix is_float_suffix is_quote is_backslash is_simple_escape is_no_line_feed is_blank
empty = refl

-- a string may be empty
empty_string : tokens_of C90 (codes "\"\"" ∷ []) (codes "\"\"") ≡ Ok (token_at (s.Str (record { 0 = 0 })) 0 2 ∷ token_at s.End 2 2 ∷ [])
unfolding longest_up_to longest meaning pieces_from pieces number_in tokens_in tokens_of with_text gained_in gained find_text keywords punctuators word_marks sign_marks other_punctuators is_word is_word_after_at is_marked_word goes_on_number is_number is_space word_spelling number_spelling literal_spelling comment_spelling directive_spelling stray_spelling sign_spelling plain_spelling spelling_of starts_with_byte starts_comment through_close starts_percent_colon starts_directive line_run starts_marker_rest after_directive is_marker_line stands_first starts_with_quote starts_wide starts_literal contents_start is_odd is_escaped starts_escape is_bad_escape met first_met quote_of ending starts_with_digit starts_with_hexadecimal is_integer_suffix is_hexadecimal_rest is_integer is_floating_suffix after_sign is_last_digits is_exponent is_fraction is_floating is_digit is_letter is_word_byte is_white_space is_sign is_exponent_mark is_octal is_hexadecimal is_hexadecimal_mark is_unsigned_suffix is_long_suffix is_float_suffix is_quote is_backslash is_simple_escape is_no_line_feed is_blank
empty_string = refl

-- a literal without end
open_literal : tokens_of C90 [] (codes "; \"a") ≡ bad 2 cause.OpenLiteral
unfolding longest_up_to longest meaning pieces_from pieces number_in tokens_in tokens_of with_text gained_in gained find_text keywords punctuators word_marks sign_marks other_punctuators is_word is_word_after_at is_marked_word goes_on_number is_number is_space word_spelling number_spelling literal_spelling comment_spelling directive_spelling stray_spelling sign_spelling plain_spelling spelling_of starts_with_byte starts_comment through_close starts_percent_colon starts_directive line_run starts_marker_rest after_directive is_marker_line stands_first starts_with_quote starts_wide starts_literal contents_start is_odd is_escaped starts_escape is_bad_escape met first_met quote_of ending starts_with_digit starts_with_hexadecimal is_integer_suffix is_hexadecimal_rest is_integer is_floating_suffix after_sign is_last_digits is_exponent is_fraction is_floating is_digit is_letter is_word_byte is_white_space is_sign is_exponent_mark is_octal is_hexadecimal is_hexadecimal_mark is_unsigned_suffix is_long_suffix is_float_suffix is_quote is_backslash is_simple_escape is_no_line_feed is_blank
open_literal = refl

-- a literal ends on its line
line_literal : tokens_of C90 [] (codes "; \"a\n\"") ≡ bad 2 cause.OpenLiteral
unfolding longest_up_to longest meaning pieces_from pieces number_in tokens_in tokens_of with_text gained_in gained find_text keywords punctuators word_marks sign_marks other_punctuators is_word is_word_after_at is_marked_word goes_on_number is_number is_space word_spelling number_spelling literal_spelling comment_spelling directive_spelling stray_spelling sign_spelling plain_spelling spelling_of starts_with_byte starts_comment through_close starts_percent_colon starts_directive line_run starts_marker_rest after_directive is_marker_line stands_first starts_with_quote starts_wide starts_literal contents_start is_odd is_escaped starts_escape is_bad_escape met first_met quote_of ending starts_with_digit starts_with_hexadecimal is_integer_suffix is_hexadecimal_rest is_integer is_floating_suffix after_sign is_last_digits is_exponent is_fraction is_floating is_digit is_letter is_word_byte is_white_space is_sign is_exponent_mark is_octal is_hexadecimal is_hexadecimal_mark is_unsigned_suffix is_long_suffix is_float_suffix is_quote is_backslash is_simple_escape is_no_line_feed is_blank
line_literal = refl

-- a bad escape is spoiled at its backslash
bad_escape : tokens_of C90 [] (codes "\"a\\q\"") ≡ bad 2 cause.BadEscape
unfolding longest_up_to longest meaning pieces_from pieces number_in tokens_in tokens_of with_text gained_in gained find_text keywords punctuators word_marks sign_marks other_punctuators is_word is_word_after_at is_marked_word goes_on_number is_number is_space word_spelling number_spelling literal_spelling comment_spelling directive_spelling stray_spelling sign_spelling plain_spelling spelling_of starts_with_byte starts_comment through_close starts_percent_colon starts_directive line_run starts_marker_rest after_directive is_marker_line stands_first starts_with_quote starts_wide starts_literal contents_start is_odd is_escaped starts_escape is_bad_escape met first_met quote_of ending starts_with_digit starts_with_hexadecimal is_integer_suffix is_hexadecimal_rest is_integer is_floating_suffix after_sign is_last_digits is_exponent is_fraction is_floating is_digit is_letter is_word_byte is_white_space is_sign is_exponent_mark is_octal is_hexadecimal is_hexadecimal_mark is_unsigned_suffix is_long_suffix is_float_suffix is_quote is_backslash is_simple_escape is_no_line_feed is_blank
bad_escape = refl

-- `x` without a hexadecimal digit
bad_hexadecimal : tokens_of C90 [] (codes "\"\\x\"") ≡ bad 1 cause.BadEscape
unfolding longest_up_to longest meaning pieces_from pieces number_in tokens_in tokens_of with_text gained_in gained find_text keywords punctuators word_marks sign_marks other_punctuators is_word is_word_after_at is_marked_word goes_on_number is_number is_space word_spelling number_spelling literal_spelling comment_spelling directive_spelling stray_spelling sign_spelling plain_spelling spelling_of starts_with_byte starts_comment through_close starts_percent_colon starts_directive line_run starts_marker_rest after_directive is_marker_line stands_first starts_with_quote starts_wide starts_literal contents_start is_odd is_escaped starts_escape is_bad_escape met first_met quote_of ending starts_with_digit starts_with_hexadecimal is_integer_suffix is_hexadecimal_rest is_integer is_floating_suffix after_sign is_last_digits is_exponent is_fraction is_floating is_digit is_letter is_word_byte is_white_space is_sign is_exponent_mark is_octal is_hexadecimal is_hexadecimal_mark is_unsigned_suffix is_long_suffix is_float_suffix is_quote is_backslash is_simple_escape is_no_line_feed is_blank
bad_hexadecimal = refl

-- an escaped quote does not close
escaped_quote : tokens_of C90 [] (codes "'\\'") ≡ bad 0 cause.OpenLiteral
unfolding longest_up_to longest meaning pieces_from pieces number_in tokens_in tokens_of with_text gained_in gained find_text keywords punctuators word_marks sign_marks other_punctuators is_word is_word_after_at is_marked_word goes_on_number is_number is_space word_spelling number_spelling literal_spelling comment_spelling directive_spelling stray_spelling sign_spelling plain_spelling spelling_of starts_with_byte starts_comment through_close starts_percent_colon starts_directive line_run starts_marker_rest after_directive is_marker_line stands_first starts_with_quote starts_wide starts_literal contents_start is_odd is_escaped starts_escape is_bad_escape met first_met quote_of ending starts_with_digit starts_with_hexadecimal is_integer_suffix is_hexadecimal_rest is_integer is_floating_suffix after_sign is_last_digits is_exponent is_fraction is_floating is_digit is_letter is_word_byte is_white_space is_sign is_exponent_mark is_octal is_hexadecimal is_hexadecimal_mark is_unsigned_suffix is_long_suffix is_float_suffix is_quote is_backslash is_simple_escape is_no_line_feed is_blank
escaped_quote = refl

-- a backslash that belongs to an escape
escaped_backslash : tokens_of C90 (codes "'\\\\'" ∷ []) (codes "'\\\\'") ≡ Ok (token_at (s.Char (record { 0 = 0 })) 0 4 ∷ token_at s.End 4 4 ∷ [])
unfolding longest_up_to longest meaning pieces_from pieces number_in tokens_in tokens_of with_text gained_in gained find_text keywords punctuators word_marks sign_marks other_punctuators is_word is_word_after_at is_marked_word goes_on_number is_number is_space word_spelling number_spelling literal_spelling comment_spelling directive_spelling stray_spelling sign_spelling plain_spelling spelling_of starts_with_byte starts_comment through_close starts_percent_colon starts_directive line_run starts_marker_rest after_directive is_marker_line stands_first starts_with_quote starts_wide starts_literal contents_start is_odd is_escaped starts_escape is_bad_escape met first_met quote_of ending starts_with_digit starts_with_hexadecimal is_integer_suffix is_hexadecimal_rest is_integer is_floating_suffix after_sign is_last_digits is_exponent is_fraction is_floating is_digit is_letter is_word_byte is_white_space is_sign is_exponent_mark is_octal is_hexadecimal is_hexadecimal_mark is_unsigned_suffix is_long_suffix is_float_suffix is_quote is_backslash is_simple_escape is_no_line_feed is_blank
escaped_backslash = refl

-- a comment separates tokens
comment : tokens_of C90 [] (codes "+/* **/+") ≡ Ok (token_at (s.Punct p.Plus) 0 1 ∷ token_at (s.Punct p.Plus) 7 8 ∷ token_at s.End 8 8 ∷ [])
unfolding longest_up_to longest meaning pieces_from pieces number_in tokens_in tokens_of with_text gained_in gained find_text keywords punctuators word_marks sign_marks other_punctuators is_word is_word_after_at is_marked_word goes_on_number is_number is_space word_spelling number_spelling literal_spelling comment_spelling directive_spelling stray_spelling sign_spelling plain_spelling spelling_of starts_with_byte starts_comment through_close starts_percent_colon starts_directive line_run starts_marker_rest after_directive is_marker_line stands_first starts_with_quote starts_wide starts_literal contents_start is_odd is_escaped starts_escape is_bad_escape met first_met quote_of ending starts_with_digit starts_with_hexadecimal is_integer_suffix is_hexadecimal_rest is_integer is_floating_suffix after_sign is_last_digits is_exponent is_fraction is_floating is_digit is_letter is_word_byte is_white_space is_sign is_exponent_mark is_octal is_hexadecimal is_hexadecimal_mark is_unsigned_suffix is_long_suffix is_float_suffix is_quote is_backslash is_simple_escape is_no_line_feed is_blank
comment = refl

-- a comment ends with a star of its own
open_comment : tokens_of C90 [] (codes "; /*/") ≡ bad 2 cause.OpenComment
unfolding longest_up_to longest meaning pieces_from pieces number_in tokens_in tokens_of with_text gained_in gained find_text keywords punctuators word_marks sign_marks other_punctuators is_word is_word_after_at is_marked_word goes_on_number is_number is_space word_spelling number_spelling literal_spelling comment_spelling directive_spelling stray_spelling sign_spelling plain_spelling spelling_of starts_with_byte starts_comment through_close starts_percent_colon starts_directive line_run starts_marker_rest after_directive is_marker_line stands_first starts_with_quote starts_wide starts_literal contents_start is_odd is_escaped starts_escape is_bad_escape met first_met quote_of ending starts_with_digit starts_with_hexadecimal is_integer_suffix is_hexadecimal_rest is_integer is_floating_suffix after_sign is_last_digits is_exponent is_fraction is_floating is_digit is_letter is_word_byte is_white_space is_sign is_exponent_mark is_octal is_hexadecimal is_hexadecimal_mark is_unsigned_suffix is_long_suffix is_float_suffix is_quote is_backslash is_simple_escape is_no_line_feed is_blank
open_comment = refl

-- a line marker is white space
marker : tokens_of C90 [] (codes "\n #\t1 \"x\n;") ≡ Ok (token_at (s.Punct p.Semicolon) 9 10 ∷ token_at s.End 10 10 ∷ [])
unfolding longest_up_to longest meaning pieces_from pieces number_in tokens_in tokens_of with_text gained_in gained find_text keywords punctuators word_marks sign_marks other_punctuators is_word is_word_after_at is_marked_word goes_on_number is_number is_space word_spelling number_spelling literal_spelling comment_spelling directive_spelling stray_spelling sign_spelling plain_spelling spelling_of starts_with_byte starts_comment through_close starts_percent_colon starts_directive line_run starts_marker_rest after_directive is_marker_line stands_first starts_with_quote starts_wide starts_literal contents_start is_odd is_escaped starts_escape is_bad_escape met first_met quote_of ending starts_with_digit starts_with_hexadecimal is_integer_suffix is_hexadecimal_rest is_integer is_floating_suffix after_sign is_last_digits is_exponent is_fraction is_floating is_digit is_letter is_word_byte is_white_space is_sign is_exponent_mark is_octal is_hexadecimal is_hexadecimal_mark is_unsigned_suffix is_long_suffix is_float_suffix is_quote is_backslash is_simple_escape is_no_line_feed is_blank
marker = refl

-- a line marker at the end of the source
line_marker : tokens_of C90 [] (codes "#line") ≡ Ok (token_at s.End 5 5 ∷ [])
unfolding longest_up_to longest meaning pieces_from pieces number_in tokens_in tokens_of with_text gained_in gained find_text keywords punctuators word_marks sign_marks other_punctuators is_word is_word_after_at is_marked_word goes_on_number is_number is_space word_spelling number_spelling literal_spelling comment_spelling directive_spelling stray_spelling sign_spelling plain_spelling spelling_of starts_with_byte starts_comment through_close starts_percent_colon starts_directive line_run starts_marker_rest after_directive is_marker_line stands_first starts_with_quote starts_wide starts_literal contents_start is_odd is_escaped starts_escape is_bad_escape met first_met quote_of ending starts_with_digit starts_with_hexadecimal is_integer_suffix is_hexadecimal_rest is_integer is_floating_suffix after_sign is_last_digits is_exponent is_fraction is_floating is_digit is_letter is_word_byte is_white_space is_sign is_exponent_mark is_octal is_hexadecimal is_hexadecimal_mark is_unsigned_suffix is_long_suffix is_float_suffix is_quote is_backslash is_simple_escape is_no_line_feed is_blank
line_marker = refl

-- another directive
directive : tokens_of C90 [] (codes "#lines") ≡ bad 0 cause.Directive
unfolding longest_up_to longest meaning pieces_from pieces number_in tokens_in tokens_of with_text gained_in gained find_text keywords punctuators word_marks sign_marks other_punctuators is_word is_word_after_at is_marked_word goes_on_number is_number is_space word_spelling number_spelling literal_spelling comment_spelling directive_spelling stray_spelling sign_spelling plain_spelling spelling_of starts_with_byte starts_comment through_close starts_percent_colon starts_directive line_run starts_marker_rest after_directive is_marker_line stands_first starts_with_quote starts_wide starts_literal contents_start is_odd is_escaped starts_escape is_bad_escape met first_met quote_of ending starts_with_digit starts_with_hexadecimal is_integer_suffix is_hexadecimal_rest is_integer is_floating_suffix after_sign is_last_digits is_exponent is_fraction is_floating is_digit is_letter is_word_byte is_white_space is_sign is_exponent_mark is_octal is_hexadecimal is_hexadecimal_mark is_unsigned_suffix is_long_suffix is_float_suffix is_quote is_backslash is_simple_escape is_no_line_feed is_blank
directive = refl

-- a line marker stands first on its line
not_first : tokens_of C90 [] (codes "/**/#1") ≡ bad 4 cause.Directive
unfolding longest_up_to longest meaning pieces_from pieces number_in tokens_in tokens_of with_text gained_in gained find_text keywords punctuators word_marks sign_marks other_punctuators is_word is_word_after_at is_marked_word goes_on_number is_number is_space word_spelling number_spelling literal_spelling comment_spelling directive_spelling stray_spelling sign_spelling plain_spelling spelling_of starts_with_byte starts_comment through_close starts_percent_colon starts_directive line_run starts_marker_rest after_directive is_marker_line stands_first starts_with_quote starts_wide starts_literal contents_start is_odd is_escaped starts_escape is_bad_escape met first_met quote_of ending starts_with_digit starts_with_hexadecimal is_integer_suffix is_hexadecimal_rest is_integer is_floating_suffix after_sign is_last_digits is_exponent is_fraction is_floating is_digit is_letter is_word_byte is_white_space is_sign is_exponent_mark is_octal is_hexadecimal is_hexadecimal_mark is_unsigned_suffix is_long_suffix is_float_suffix is_quote is_backslash is_simple_escape is_no_line_feed is_blank
not_first = refl

-- signs of two bytes are two tokens in C90
two_signs : tokens_of C90 [] (codes "<:") ≡ Ok (token_at (s.Punct p.Less) 0 1 ∷ token_at (s.Punct p.Colon) 1 2 ∷ token_at s.End 2 2 ∷ [])
unfolding longest_up_to longest meaning pieces_from pieces number_in tokens_in tokens_of with_text gained_in gained find_text keywords punctuators word_marks sign_marks other_punctuators is_word is_word_after_at is_marked_word goes_on_number is_number is_space word_spelling number_spelling literal_spelling comment_spelling directive_spelling stray_spelling sign_spelling plain_spelling spelling_of starts_with_byte starts_comment through_close starts_percent_colon starts_directive line_run starts_marker_rest after_directive is_marker_line stands_first starts_with_quote starts_wide starts_literal contents_start is_odd is_escaped starts_escape is_bad_escape met first_met quote_of ending starts_with_digit starts_with_hexadecimal is_integer_suffix is_hexadecimal_rest is_integer is_floating_suffix after_sign is_last_digits is_exponent is_fraction is_floating is_digit is_letter is_word_byte is_white_space is_sign is_exponent_mark is_octal is_hexadecimal is_hexadecimal_mark is_unsigned_suffix is_long_suffix is_float_suffix is_quote is_backslash is_simple_escape is_no_line_feed is_blank
two_signs = refl

-- and another spelling of one in C95
one_sign : tokens_of C95 [] (codes "<:") ≡ Ok (token_at (s.Punct p.LeftBracket) 0 2 ∷ token_at s.End 2 2 ∷ [])
unfolding longest_up_to longest meaning pieces_from pieces number_in tokens_in tokens_of with_text gained_in gained find_text keywords punctuators word_marks sign_marks other_punctuators is_word is_word_after_at is_marked_word goes_on_number is_number is_space word_spelling number_spelling literal_spelling comment_spelling directive_spelling stray_spelling sign_spelling plain_spelling spelling_of starts_with_byte starts_comment through_close starts_percent_colon starts_directive line_run starts_marker_rest after_directive is_marker_line stands_first starts_with_quote starts_wide starts_literal contents_start is_odd is_escaped starts_escape is_bad_escape met first_met quote_of ending starts_with_digit starts_with_hexadecimal is_integer_suffix is_hexadecimal_rest is_integer is_floating_suffix after_sign is_last_digits is_exponent is_fraction is_floating is_digit is_letter is_word_byte is_white_space is_sign is_exponent_mark is_octal is_hexadecimal is_hexadecimal_mark is_unsigned_suffix is_long_suffix is_float_suffix is_quote is_backslash is_simple_escape is_no_line_feed is_blank
one_sign = refl

-- another line marker in C95
other_marker : tokens_of C95 [] (codes "%: 1") ≡ Ok (token_at s.End 4 4 ∷ [])
unfolding longest_up_to longest meaning pieces_from pieces number_in tokens_in tokens_of with_text gained_in gained find_text keywords punctuators word_marks sign_marks other_punctuators is_word is_word_after_at is_marked_word goes_on_number is_number is_space word_spelling number_spelling literal_spelling comment_spelling directive_spelling stray_spelling sign_spelling plain_spelling spelling_of starts_with_byte starts_comment through_close starts_percent_colon starts_directive line_run starts_marker_rest after_directive is_marker_line stands_first starts_with_quote starts_wide starts_literal contents_start is_odd is_escaped starts_escape is_bad_escape met first_met quote_of ending starts_with_digit starts_with_hexadecimal is_integer_suffix is_hexadecimal_rest is_integer is_floating_suffix after_sign is_last_digits is_exponent is_fraction is_floating is_digit is_letter is_word_byte is_white_space is_sign is_exponent_mark is_octal is_hexadecimal is_hexadecimal_mark is_unsigned_suffix is_long_suffix is_float_suffix is_quote is_backslash is_simple_escape is_no_line_feed is_blank
other_marker = refl

-- another directive in C95
other_directive : tokens_of C95 [] (codes "%:%:") ≡ bad 0 cause.Directive
unfolding longest_up_to longest meaning pieces_from pieces number_in tokens_in tokens_of with_text gained_in gained find_text keywords punctuators word_marks sign_marks other_punctuators is_word is_word_after_at is_marked_word goes_on_number is_number is_space word_spelling number_spelling literal_spelling comment_spelling directive_spelling stray_spelling sign_spelling plain_spelling spelling_of starts_with_byte starts_comment through_close starts_percent_colon starts_directive line_run starts_marker_rest after_directive is_marker_line stands_first starts_with_quote starts_wide starts_literal contents_start is_odd is_escaped starts_escape is_bad_escape met first_met quote_of ending starts_with_digit starts_with_hexadecimal is_integer_suffix is_hexadecimal_rest is_integer is_floating_suffix after_sign is_last_digits is_exponent is_fraction is_floating is_digit is_letter is_word_byte is_white_space is_sign is_exponent_mark is_octal is_hexadecimal is_hexadecimal_mark is_unsigned_suffix is_long_suffix is_float_suffix is_quote is_backslash is_simple_escape is_no_line_feed is_blank
other_directive = refl

-- texts get numbers in the order of first sight
first_sight : gained C90 (codes "b" ∷ []) (codes "a if 7 b a") ≡ codes "b" ∷ codes "a" ∷ codes "7" ∷ []
unfolding longest_up_to longest meaning pieces_from pieces number_in tokens_in tokens_of with_text gained_in gained find_text keywords punctuators word_marks sign_marks other_punctuators is_word is_word_after_at is_marked_word goes_on_number is_number is_space word_spelling number_spelling literal_spelling comment_spelling directive_spelling stray_spelling sign_spelling plain_spelling spelling_of starts_with_byte starts_comment through_close starts_percent_colon starts_directive line_run starts_marker_rest after_directive is_marker_line stands_first starts_with_quote starts_wide starts_literal contents_start is_odd is_escaped starts_escape is_bad_escape met first_met quote_of ending starts_with_digit starts_with_hexadecimal is_integer_suffix is_hexadecimal_rest is_integer is_floating_suffix after_sign is_last_digits is_exponent is_fraction is_floating is_digit is_letter is_word_byte is_white_space is_sign is_exponent_mark is_octal is_hexadecimal is_hexadecimal_mark is_unsigned_suffix is_long_suffix is_float_suffix is_quote is_backslash is_simple_escape is_no_line_feed is_blank
first_sight = refl

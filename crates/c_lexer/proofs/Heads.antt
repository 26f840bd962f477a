-- How a text begins, by its first bytes.
use Rattle.std.proofs.Common.{◌≡◌, ◌≢◌, refl, sym, ap, ◌∙◌, ℕ, suc, Option, Some, None, option_map, ◌+◌, ◌<◌, ◌≤◌, Bool, true, false, cond, ◌&&◌, ◌||◌, List, [], ◌∷◌, length, take, drop, get_or, nat_eq, ◌-◌, arith, add-one, drop-cons, codes, bytes_eq}
use Rattle.std.specs.List.{prefix_len}
use Rattle.std.proofs.lemmas.Grind.{common_steps}
use Rattle.std.proofs.lemmas.Bool.Decides.{nat_tests}
use Rattle.c_tokens.specs.declared.lexical.LexCause.TheVariants as cause
use Rattle.c_tokens.specs.declared.lexical.Dialect.{Dialect}
use Rattle.c_tokens.specs.Bytes.{is_digit, is_letter, is_word_byte, is_sign, is_exponent_mark, is_octal, is_hexadecimal, is_hexadecimal_mark, is_quote, is_simple_escape, is_no_line_feed, is_blank, is_unsigned_suffix, is_long_suffix, is_float_suffix}
use Rattle.c_tokens.specs.Constants as constant
use Rattle.c_tokens.specs.Constants.{starts_with_digit, starts_with_hexadecimal, after}
use Rattle.c_tokens.specs.Literals.{starts_with_quote, starts_wide, starts_literal, starts_escape, Met, spoiled, met, unless_inside, first_met}
use Rattle.c_tokens.specs.Skipped.{starts_with_byte, starts_comment, starts_percent_colon, starts_directive, is_c95, through_close, line_run, starts_marker_rest, after_directive, is_marker_line}
use Rattle.c_tokens.specs.Runs.{word_run, number_run, starts_with_letter, starts_number, starts_after_at, starts_after_backquote}

pub wide_by_bytes : (text : List ℕ) → starts_wide text ≡ (nat_eq (get_or text 0 0) 76 && is_quote (get_or text 1 0))
unfolding starts_wide starts_with_quote is_quote
wide_by_bytes [] = refl
wide_by_bytes (b ∷ []) = refl
wide_by_bytes (b ∷ c ∷ rest) = refl

pub literal_by_bytes : (text : List ℕ) → starts_literal text ≡ (is_quote (get_or text 0 0) || starts_wide text)
unfolding starts_literal starts_with_quote is_quote
literal_by_bytes [] = refl
literal_by_bytes (b ∷ rest) = refl

pub comment_by_bytes : (text : List ℕ) → starts_comment text ≡ (nat_eq (get_or text 0 0) 47 && nat_eq (get_or text 1 0) 42)
unfolding starts_comment starts_with_byte
comment_by_bytes [] = refl
comment_by_bytes (b ∷ []) = refl
comment_by_bytes (b ∷ c ∷ rest) = refl

pub directive_by_bytes : (dialect : Dialect) (text : List ℕ) → starts_directive dialect text ≡ (nat_eq (get_or text 0 0) 35 || (is_c95 dialect && (nat_eq (get_or text 0 0) 37 && nat_eq (get_or text 1 0) 58)))
unfolding starts_directive starts_percent_colon starts_with_byte
directive_by_bytes dialect [] = refl
directive_by_bytes dialect (b ∷ []) = refl
directive_by_bytes dialect (b ∷ c ∷ rest) = refl

pub escape_by_bytes : (text : List ℕ) → starts_escape text ≡ (is_simple_escape (get_or text 0 0) || is_octal (get_or text 0 0) || (nat_eq (get_or text 0 0) 120 && is_hexadecimal (get_or text 1 0)))
unfolding starts_escape starts_with_hexadecimal is_simple_escape is_octal is_hexadecimal is_quote is_digit
escape_by_bytes [] = refl
escape_by_bytes (b ∷ []) = refl
escape_by_bytes (b ∷ c ∷ rest) = refl

pub digit_by_bytes : (text : List ℕ) → starts_with_digit text ≡ is_digit (get_or text 0 0)
unfolding starts_with_digit is_digit
digit_by_bytes [] = refl
digit_by_bytes (b ∷ rest) = refl

pub hexadecimal_by_bytes : (text : List ℕ) → starts_with_hexadecimal text ≡ is_hexadecimal (get_or text 0 0)
unfolding starts_with_hexadecimal is_hexadecimal is_digit
hexadecimal_by_bytes [] = refl
hexadecimal_by_bytes (b ∷ rest) = refl

pub hash_by_bytes : (text : List ℕ) → starts_with_byte 35 text ≡ nat_eq (get_or text 0 0) 35
unfolding starts_with_byte
hash_by_bytes [] = refl
hash_by_bytes (b ∷ rest) = refl

pub number_by_bytes : (text : List ℕ) → starts_number text ≡ (is_digit (get_or text 0 0) || (nat_eq (get_or text 0 0) 46 && is_digit (get_or text 1 0)))
unfolding starts_number starts_with_digit is_digit
number_by_bytes [] = refl
number_by_bytes (b ∷ []) = refl
number_by_bytes (b ∷ c ∷ rest) = refl

pub after_at_by_bytes : (text : List ℕ) → starts_after_at text ≡ (nat_eq (get_or text 0 0) 64 && is_letter (get_or text 1 0))
unfolding starts_after_at starts_with_letter is_letter
after_at_by_bytes [] = refl
after_at_by_bytes (b ∷ []) = refl
after_at_by_bytes (b ∷ c ∷ rest) = refl

pub after_backquote_by_bytes : (text : List ℕ) → starts_after_backquote text ≡ (nat_eq (get_or text 0 0) 96 && (nat_eq (get_or text 1 0) 64 && is_letter (get_or text 2 0)))
unfolding starts_after_backquote starts_after_at starts_with_letter is_letter
after_backquote_by_bytes [] = refl
after_backquote_by_bytes (b ∷ []) = refl
after_backquote_by_bytes (b ∷ c ∷ []) = refl
after_backquote_by_bytes (b ∷ c ∷ d ∷ rest) = refl

-- constants

pub integer_empty : (text : List ℕ) → length text ≤ 0 → constant.is_integer text ≡ false
unfolding constant.is_integer
integer_empty [] h = refl
integer_empty (b ∷ rest) h = absurd (omega arith)

pub integer_some : (text : List ℕ) → 0 < length text → constant.is_integer text ≡ cond (nat_eq (get_or text 0 0) 48) (constant.is_hexadecimal_rest (drop 1 text) || constant.is_integer_suffix (after is_octal (drop 1 text))) (is_digit (get_or text 0 0) && constant.is_integer_suffix (after is_digit (drop 1 text)))
unfolding constant.is_integer
integer_some [] h = absurd (omega arith)
integer_some (b ∷ rest) h = refl

pub hexadecimal_empty : (text : List ℕ) → length text ≤ 0 → constant.is_hexadecimal_rest text ≡ false
unfolding constant.is_hexadecimal_rest
hexadecimal_empty [] h = refl
hexadecimal_empty (b ∷ rest) h = absurd (omega arith)

pub hexadecimal_some : (text : List ℕ) → 0 < length text → constant.is_hexadecimal_rest text ≡ (is_hexadecimal_mark (get_or text 0 0) && is_hexadecimal (get_or (drop 1 text) 0 0) && constant.is_integer_suffix (after is_hexadecimal (drop 1 text)))
unfolding constant.is_hexadecimal_rest
hexadecimal_some [] h = absurd (omega arith)
hexadecimal_some (b ∷ rest) h = ap (λ c. is_hexadecimal_mark b && c && constant.is_integer_suffix (after is_hexadecimal rest)) (hexadecimal_by_bytes rest)

pub fraction_empty : (digits : Bool) (text : List ℕ) → length text ≤ 0 → constant.is_fraction digits text ≡ false
unfolding constant.is_fraction
fraction_empty digits [] h = refl
fraction_empty digits (b ∷ rest) h = absurd (omega arith)

pub fraction_some : (digits : Bool) (text : List ℕ) → 0 < length text → constant.is_fraction digits text ≡ (nat_eq (get_or text 0 0) 46 && (digits || is_digit (get_or (drop 1 text) 0 0)) && (constant.is_floating_suffix (after is_digit (drop 1 text)) || constant.is_exponent (after is_digit (drop 1 text))))
unfolding constant.is_fraction
fraction_some digits [] h = absurd (omega arith)
fraction_some digits (b ∷ rest) h = ap (λ c. nat_eq b 46 && (digits || c) && (constant.is_floating_suffix (after is_digit rest) || constant.is_exponent (after is_digit rest))) (digit_by_bytes rest)

pub exponent_empty : (text : List ℕ) → length text ≤ 0 → constant.is_exponent text ≡ false
unfolding constant.is_exponent
exponent_empty [] h = refl
exponent_empty (b ∷ rest) h = absurd (omega arith)

pub exponent_some : (text : List ℕ) → 0 < length text → constant.is_exponent text ≡ (is_exponent_mark (get_or text 0 0) && constant.is_last_digits (constant.after_sign (drop 1 text)))
unfolding constant.is_exponent
exponent_some [] h = absurd (omega arith)
exponent_some (b ∷ rest) h = refl

pub after_sign_by_bytes : (text : List ℕ) → constant.after_sign text ≡ cond (is_sign (get_or text 0 0)) (drop 1 text) text
unfolding constant.after_sign is_sign
after_sign_by_bytes [] = refl
after_sign_by_bytes (b ∷ rest) = refl

pub last_digits_by_bytes : (text : List ℕ) → constant.is_last_digits text ≡ (is_digit (get_or text 0 0) && constant.is_floating_suffix (after is_digit text))
unfolding constant.is_last_digits
last_digits_by_bytes text = ap (λ c. c && constant.is_floating_suffix (after is_digit text)) (digit_by_bytes text)

pub floating_by_bytes : (text : List ℕ) → constant.is_floating text ≡ (constant.is_fraction (is_digit (get_or text 0 0)) (after is_digit text) || (is_digit (get_or text 0 0) && constant.is_exponent (after is_digit text)))
unfolding constant.is_floating
floating_by_bytes text = ap (λ c. constant.is_fraction c (after is_digit text) || (c && constant.is_exponent (after is_digit text))) (digit_by_bytes text)

pub integer_suffix_empty : (text : List ℕ) → length text < 1 → constant.is_integer_suffix text ≡ true
unfolding constant.is_integer_suffix
integer_suffix_empty [] h = refl
integer_suffix_empty (a ∷ t) h = absurd (omega arith)

pub integer_suffix_one : (text : List ℕ) → 1 ≤ length text → length text < 2 → constant.is_integer_suffix text ≡ (is_unsigned_suffix (get_or text 0 0) || is_long_suffix (get_or text 0 0))
unfolding constant.is_integer_suffix
integer_suffix_one [] h k = absurd (omega arith)
integer_suffix_one (a ∷ []) h k = refl
integer_suffix_one (a ∷ b ∷ t) h k = absurd (omega arith)

pub integer_suffix_two : (text : List ℕ) → 2 ≤ length text → length text < 3
    → constant.is_integer_suffix text ≡ ((is_unsigned_suffix (get_or text 0 0) && is_long_suffix (get_or text 1 0)) || (is_long_suffix (get_or text 0 0) && is_unsigned_suffix (get_or text 1 0)))
unfolding constant.is_integer_suffix
integer_suffix_two [] h k = absurd (omega arith)
integer_suffix_two (a ∷ []) h k = absurd (omega arith)
integer_suffix_two (a ∷ b ∷ []) h k = refl
integer_suffix_two (a ∷ b ∷ c ∷ t) h k = absurd (omega arith)

pub integer_suffix_more : (text : List ℕ) → 3 ≤ length text → constant.is_integer_suffix text ≡ false
unfolding constant.is_integer_suffix
integer_suffix_more [] h = absurd (omega arith)
integer_suffix_more (a ∷ []) h = absurd (omega arith)
integer_suffix_more (a ∷ b ∷ []) h = absurd (omega arith)
integer_suffix_more (a ∷ b ∷ c ∷ t) h = refl

pub floating_suffix_empty : (text : List ℕ) → length text < 1 → constant.is_floating_suffix text ≡ true
unfolding constant.is_floating_suffix
floating_suffix_empty [] h = refl
floating_suffix_empty (a ∷ t) h = absurd (omega arith)

pub floating_suffix_one : (text : List ℕ) → 1 ≤ length text → length text < 2 → constant.is_floating_suffix text ≡ (is_float_suffix (get_or text 0 0) || is_long_suffix (get_or text 0 0))
unfolding constant.is_floating_suffix
floating_suffix_one [] h k = absurd (omega arith)
floating_suffix_one (a ∷ []) h k = refl
floating_suffix_one (a ∷ b ∷ t) h k = absurd (omega arith)

pub floating_suffix_more : (text : List ℕ) → 2 ≤ length text → constant.is_floating_suffix text ≡ false
unfolding constant.is_floating_suffix
floating_suffix_more [] h = absurd (omega arith)
floating_suffix_more (a ∷ []) h = absurd (omega arith)
floating_suffix_more (a ∷ b ∷ t) h = refl

-- line markers

pub marker_rest_by_bytes : (text : List ℕ) → starts_marker_rest text ≡ (is_digit (get_or text 0 0) || bytes_eq (take (word_run text) text) (codes "line"))
unfolding starts_marker_rest
marker_rest_by_bytes text = ap (λ c. c || bytes_eq (take (word_run text) text) (codes "line")) (digit_by_bytes text)

pub marker_line_by_bytes : (line : List ℕ) → is_marker_line line ≡ starts_marker_rest (after is_blank (drop (cond (nat_eq (get_or line 0 0) 35) 1 2) line))
unfolding is_marker_line after_directive
marker_line_by_bytes line = ap (λ c. starts_marker_rest (after is_blank (drop (cond c 1 2) line))) (hash_by_bytes line)

next : (text : List ℕ) (i : ℕ) → i < length text → drop i text ≡ get_or text i 0 ∷ drop (i + 1) text
next text i within = rw (add-one, drop-cons text i 0) refl

none_left : (text : List ℕ) (i : ℕ) → length text ≤ i → drop i text ≡ []
none_left text i past = grind (arith, common_steps)

run_here : (p : ℕ → Bool) (text : List ℕ) (i : ℕ) (b : Bool) → i < length text → p (get_or text i 0) ≡ b → prefix_len p (drop i text) ≡ cond b (1 + prefix_len p (drop (i + 1) text)) 0
run_here p text i b within e = ap (prefix_len p) (next text i within) ∙ ap (λ c. cond c (1 + prefix_len p (drop (i + 1) text)) 0) e

pub run_stops : (p : ℕ → Bool) (text : List ℕ) (i : ℕ) → i < length text → p (get_or text i 0) ≡ false → prefix_len p text ≡ i + prefix_len p (drop i text) → i ≡ prefix_len p text
run_stops p text i within e so_far = omega (arith, so_far, run_here p text i false within e)

pub run_goes_on : (p : ℕ → Bool) (text : List ℕ) (i : ℕ) → i < length text → p (get_or text i 0) ≡ true → prefix_len p text ≡ i + prefix_len p (drop i text) → prefix_len p text ≡ i + 1 + prefix_len p (drop (i + 1) text)
run_goes_on p text i within e so_far = omega (arith, so_far, run_here p text i true within e)

pub run_ends : (p : ℕ → Bool) (text : List ℕ) (i : ℕ) → length text ≤ i → prefix_len p text ≡ i + prefix_len p (drop i text) → i ≡ prefix_len p text
run_ends p text i past so_far = omega (arith, so_far, ap (prefix_len p) (none_left text i past))

abbrev pub goes : ℕ → ℕ → Bool
goes before b = is_word_byte b || nat_eq b 46 || (is_sign b && is_exponent_mark before)

number_here : (before : ℕ) (text : List ℕ) (i : ℕ) (b : Bool) → i < length text → goes before (get_or text i 0) ≡ b → number_run before (drop i text) ≡ cond b (1 + number_run (get_or text i 0) (drop (i + 1) text)) 0
unfolding number_run
number_here before text i b within e = ap (number_run before) (next text i within) ∙ ap (λ c. cond c (1 + number_run (get_or text i 0) (drop (i + 1) text)) 0) e

number_nothing : (before : ℕ) → number_run before [] ≡ 0
unfolding number_run
number_nothing before = refl

pub number_stops : (first before : ℕ) (text : List ℕ) (i : ℕ) → i < length text → goes before (get_or text i 0) ≡ false → number_run first text ≡ i + number_run before (drop i text) → i ≡ number_run first text
number_stops first before text i within e so_far = omega (arith, so_far, number_here before text i false within e)

pub number_goes_on : (first before : ℕ) (text : List ℕ) (i : ℕ) → i < length text → goes before (get_or text i 0) ≡ true → number_run first text ≡ i + number_run before (drop i text) → number_run first text ≡ i + 1 + number_run (get_or text i 0) (drop (i + 1) text)
number_goes_on first before text i within e so_far = omega (arith, so_far, number_here before text i true within e)

pub number_ends : (first before : ℕ) (text : List ℕ) (i : ℕ) → length text ≤ i → number_run first text ≡ i + number_run before (drop i text) → i ≡ number_run first text
number_ends first before text i past so_far = omega (arith, so_far, ap (number_run before) (none_left text i past), number_nothing before)

pub part : (text : List ℕ) (k : ℕ) → take (length text - k) (drop k text) ≡ drop k text
part text k = grind (arith, common_steps)

-- the first line feed

feed_stops : (b : ℕ) → b ≡ 10 → is_no_line_feed b ≡ false
unfolding is_no_line_feed
feed_stops b e = grind (arith, nat_tests)

other_goes_on : (b : ℕ) → b ≢ 10 → is_no_line_feed b ≡ true
unfolding is_no_line_feed
other_goes_on b e = grind (arith, nat_tests)

pub line_stops : (text : List ℕ) (i : ℕ) → i < length text → get_or text i 0 ≡ 10 → line_run text ≡ i + line_run (drop i text) → i ≡ line_run text
unfolding line_run
line_stops text i within e so_far = run_stops is_no_line_feed text i within (feed_stops (get_or text i 0) e) so_far

pub line_goes_on : (text : List ℕ) (i : ℕ) → i < length text → get_or text i 0 ≢ 10 → line_run text ≡ i + line_run (drop i text) → line_run text ≡ i + 1 + line_run (drop (i + 1) text)
unfolding line_run
line_goes_on text i within e so_far = run_goes_on is_no_line_feed text i within (other_goes_on (get_or text i 0) e) so_far

pub line_ends : (text : List ℕ) (i : ℕ) → length text ≤ i → line_run text ≡ i + line_run (drop i text) → i ≡ line_run text
unfolding line_run
line_ends text i past so_far = run_ends is_no_line_feed text i past so_far

-- the first `*/`

slash_by_bytes : (text : List ℕ) → starts_with_byte 47 text ≡ nat_eq (get_or text 0 0) 47
unfolding starts_with_byte
slash_by_bytes [] = refl
slash_by_bytes (b ∷ rest) = refl

get_drop : (text : List ℕ) (i : ℕ) → get_or (drop i text) 0 0 ≡ get_or text i 0
get_drop text i = grind (arith, common_steps)

close_here : (text : List ℕ) (i : ℕ) (b : Bool) → i < length text → (nat_eq (get_or text i 0) 42 && nat_eq (get_or text (i + 1) 0) 47) ≡ b → through_close (drop i text) ≡ cond b (Some 2) (option_map suc (through_close (drop (i + 1) text)))
unfolding through_close
close_here text i b within e =
    ap through_close (next text i within)
    ∙ ap (λ c. cond (nat_eq (get_or text i 0) 42 && c) (Some 2) (option_map suc (through_close (drop (i + 1) text)))) (slash_by_bytes (drop (i + 1) text) ∙ ap (λ c. nat_eq c 47) (get_drop text (i + 1)))
    ∙ ap (λ c. cond c (Some 2) (option_map suc (through_close (drop (i + 1) text)))) e

one_further : (i : ℕ) (o : Option ℕ) → option_map (λ n. i + n) (option_map suc o) ≡ option_map (λ n. i + 1 + n) o
one_further i None = refl
one_further i (Some n) = ap Some (let e : i + suc n ≡ i + 1 + n = omega arith in e)

pub close_hit : (text : List ℕ) (i : ℕ) → i < length text → (nat_eq (get_or text i 0) 42 && nat_eq (get_or text (i + 1) 0) 47) ≡ true → through_close text ≡ option_map (λ n. i + n) (through_close (drop i text)) → Some (i + 2) ≡ through_close text
close_hit text i within e so_far = sym (so_far ∙ ap (option_map (λ n. i + n)) (close_here text i true within e))

pub close_miss : (text : List ℕ) (i : ℕ) → i < length text → (nat_eq (get_or text i 0) 42 && nat_eq (get_or text (i + 1) 0) 47) ≡ false → through_close text ≡ option_map (λ n. i + n) (through_close (drop i text))
    → through_close text ≡ option_map (λ n. i + 1 + n) (through_close (drop (i + 1) text))
close_miss text i within e so_far = so_far ∙ ap (option_map (λ n. i + n)) (close_here text i false within e) ∙ one_further i (through_close (drop (i + 1) text))

nothing_closed : through_close [] ≡ None
unfolding through_close
nothing_closed = refl

pub close_none : (text : List ℕ) (i : ℕ) → length text ≤ i → through_close text ≡ option_map (λ n. i + n) (through_close (drop i text)) → None ≡ through_close text
close_none text i past so_far = sym (so_far ∙ ap (option_map (λ n. i + n)) (ap through_close (none_left text i past) ∙ nothing_closed))

-- the end of a literal

one_less : (n i : ℕ) → i < n → n - i ≡ suc (n - (i + 1))
one_less n i h = omega arith

pub met_next : (q : ℕ) (text : List ℕ) (i : ℕ) (m : Met) → i < length text → met q text i ≡ m → first_met q text i (length text - i) ≡ unless_inside m i (first_met q text (i + 1) (length text - (i + 1)))
unfolding first_met
met_next q text i m within e = ap (first_met q text i) (one_less (length text) i within) ∙ ap (λ x. unless_inside x i (first_met q text (i + 1) (length text - (i + 1)))) e

no_more : (n i : ℕ) → n ≤ i → n - i ≡ 0
no_more n i h = omega arith

pub met_end : (q : ℕ) (text : List ℕ) (i : ℕ) → length text ≤ i → first_met q text i (length text - i) ≡ record { place = i; found = spoiled cause.OpenLiteral }
unfolding first_met
met_end q text i past = ap (first_met q text i) (no_more (length text) i past)

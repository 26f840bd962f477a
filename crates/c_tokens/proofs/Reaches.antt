-- Which spelling is the longest, by how a text begins.
use Rattle.std.proofs.Common.{◌≡◌, refl, ap, ◌∙◌, ℕ, zero, suc, ◌+◌, ◌<◌, ◌≤◌, Bool, true, false, cond, ◌&&◌, ◌||◌, List, [], ◌∷◌, length, take, Some, None, is_some, nat_eq, arith}
use Rattle.std.specs.List.{list_all, prefix_len}
use Rattle.std.proofs.lemmas.Bool.Decides.{nat_tests}
use Rattle.std.proofs.lemmas.List.Sums.{prefix_len-le-length}
use Rattle.c_tokens.specs.Bytes.{is_digit, is_letter, is_word_byte, is_white_space, is_sign, is_exponent_mark, is_quote}
use Rattle.c_tokens.specs.declared.lexical.Dialect.{Dialect}
use Rattle.c_tokens.specs.declared.lexical.Dialect.TheVariants.{C90, C95}
use Rattle.c_tokens.specs.Constants.{starts_with_digit}
use Rattle.c_tokens.specs.Literals.{starts_with_quote, starts_wide, starts_literal}
use Rattle.c_tokens.specs.Skipped.{starts_with_byte, starts_comment, starts_percent_colon, starts_directive, is_c95}
use Rattle.c_tokens.specs.Spelling.{punctuators, other_punctuators, sign_marks, word_marks, is_word, is_word_after_at, is_marked_word, is_number, goes_on_number, is_space, space, word_spelling, number_spelling, mark_or_refused, stray_spelling, sign_spelling, spelling_of, find_text}
use Rattle.c_tokens.specs.Runs.{opens, word_run, number_run, starts_with_letter, starts_white, starts_number, starts_after_at, starts_after_backquote}
use Rattle.c_tokens.proofs.Longest.{IsLongest}
use Rattle.c_tokens.proofs.Tables.{and_true, and_false, differs, or_false, no_long_sign, spelling-word, spelling-marked, spelling-number, spelling-space, spelling-none}

-- bytes

letter-word : (b : ℕ) → is_letter b ≡ true → is_word_byte b ≡ true
unfolding is_word_byte
letter-word b e = ap (λ c. c || is_digit b) e

letter-digit : (b : ℕ) → is_letter b ≡ true → is_digit b ≡ false
unfolding is_letter is_digit
letter-digit b e = grind (arith, nat_tests)

letter-space : (b : ℕ) → is_letter b ≡ true → is_white_space b ≡ false
unfolding is_letter is_white_space
letter-space b e = grind (arith, nat_tests)

digit-letter : (b : ℕ) → is_digit b ≡ true → is_letter b ≡ false
unfolding is_letter is_digit
digit-letter b e = grind (arith, nat_tests)

digit-space : (b : ℕ) → is_digit b ≡ true → is_white_space b ≡ false
unfolding is_digit is_white_space
digit-space b e = grind (arith, nat_tests)

space-letter : (b : ℕ) → is_white_space b ≡ true → is_letter b ≡ false
unfolding is_letter is_white_space
space-letter b e = grind (arith, nat_tests)

space-digit : (b : ℕ) → is_white_space b ≡ true → is_digit b ≡ false
unfolding is_digit is_white_space
space-digit b e = grind (arith, nat_tests)

-- whole texts, by their first byte

pub no_word : (b : ℕ) (t : List ℕ) → is_letter b ≡ false → is_word (b ∷ t) ≡ false
unfolding is_word
no_word b t e = ap (λ c. c && list_all is_word_byte t) e

no_marked : (b : ℕ) (t : List ℕ) → nat_eq b 64 ≡ false → nat_eq b 96 ≡ false → is_marked_word (b ∷ t) ≡ false
unfolding is_marked_word is_word_after_at
no_marked b t e f = ap (λ c. (c && is_word t) || (nat_eq b 96 && is_word_after_at t)) e ∙ ap (λ c. c && is_word_after_at t) f

no_number : (b : ℕ) (t : List ℕ) → is_digit b ≡ false → nat_eq b 46 ≡ false → is_number (b ∷ t) ≡ false
unfolding is_number
no_number b t e f = ap (λ c. (c || (nat_eq b 46 && starts_with_digit t)) && goes_on_number b t) e ∙ ap (λ c. (c && starts_with_digit t) && goes_on_number b t) f

pub no_space : (b : ℕ) (t : List ℕ) → is_white_space b ≡ false → is_space (b ∷ t) ≡ false
unfolding is_space
no_space b [] e = e
no_space b (x ∷ t) e = refl

no_long_space : (b x : ℕ) (t : List ℕ) → is_space (b ∷ x ∷ t) ≡ false
unfolding is_space
no_long_space b x t = refl

-- a beginning of a text that opens nothing

no_wide_beginning : (b : ℕ) (r : List ℕ) (k : ℕ) → starts_wide (b ∷ r) ≡ false → starts_wide (b ∷ take k r) ≡ false
unfolding starts_wide starts_with_quote
no_wide_beginning b r zero h = and_false (nat_eq b 76) false refl
no_wide_beginning b [] (suc k) h = h
no_wide_beginning b (x ∷ r) (suc k) h = h

no_comment_beginning : (b : ℕ) (r : List ℕ) (k : ℕ) → starts_comment (b ∷ r) ≡ false → starts_comment (b ∷ take k r) ≡ false
unfolding starts_comment starts_with_byte
no_comment_beginning b r zero h = and_false (nat_eq b 47) false refl
no_comment_beginning b [] (suc k) h = h
no_comment_beginning b (x ∷ r) (suc k) h = h

no_percent_beginning : (b : ℕ) (r : List ℕ) (k : ℕ) → starts_percent_colon (b ∷ r) ≡ false → starts_percent_colon (b ∷ take k r) ≡ false
unfolding starts_percent_colon starts_with_byte
no_percent_beginning b r zero h = and_false (nat_eq b 37) false refl
no_percent_beginning b [] (suc k) h = h
no_percent_beginning b (x ∷ r) (suc k) h = h

no_other_beginning : (d : Dialect) (b : ℕ) (r : List ℕ) (k : ℕ) → (is_c95 d && starts_percent_colon (b ∷ r)) ≡ false → (is_c95 d && starts_percent_colon (b ∷ take k r)) ≡ false
no_other_beginning C90 b r k h = refl
no_other_beginning C95 b r k h = no_percent_beginning b r k h

neither : (a b : Bool) → a ≡ false → b ≡ false → (a || b) ≡ false
neither a b e f = ap (λ c. c || b) e ∙ f

pub opens-beginning : (d : Dialect) (b : ℕ) (r : List ℕ) (k : ℕ) → opens d (b ∷ r) ≡ false → opens d (b ∷ take k r) ≡ false
unfolding opens starts_literal starts_with_quote starts_directive starts_with_byte
opens-beginning d b r k o =
    let h = or_false (starts_literal (b ∷ r) || starts_comment (b ∷ r)) (starts_directive d (b ∷ r)) o in
    let i = or_false (starts_literal (b ∷ r)) (starts_comment (b ∷ r)) h.0 in
    let l = or_false (is_quote b) (starts_wide (b ∷ r)) i.0 in
    let e = or_false (nat_eq b 35) (is_c95 d && starts_percent_colon (b ∷ r)) h.1 in
    neither (starts_literal (b ∷ take k r) || starts_comment (b ∷ take k r)) (starts_directive d (b ∷ take k r))
    (neither (starts_literal (b ∷ take k r)) (starts_comment (b ∷ take k r)) (neither (is_quote b) (starts_wide (b ∷ take k r)) l.0 (no_wide_beginning b r k l.1)) (no_comment_beginning b r k i.1))
    (neither (nat_eq b 35) (is_c95 d && starts_percent_colon (b ∷ take k r)) e.0 (no_other_beginning d b r k e.1))

no_stray : (b k : ℕ) (r : List ℕ) → 0 < k → k ≤ length r → stray_spelling (b ∷ take k r) ≡ None
unfolding stray_spelling
no_stray b zero r some within = absurd (omega arith)
no_stray b (suc k) [] some within = absurd (omega arith)
no_stray b (suc k) (x ∷ r) some within = refl

-- a run of elements that pass, and beyond it

one_more : (n : ℕ) → 1 + n ≡ suc n
one_more n = omega arith

more_passes : (p : ℕ → Bool) (x n : ℕ) (r : List ℕ) (b : Bool) → p x ≡ b → list_all p (take n r) ≡ true → list_all p (take (cond b (1 + n) 0) (x ∷ r)) ≡ true
more_passes p x n r true e h = ap (λ m. list_all p (take m (x ∷ r))) (one_more n) ∙ ap (λ c. c && list_all p (take n r)) e ∙ h
more_passes p x n r false e h = refl

run_passes : (p : ℕ → Bool) (r : List ℕ) → list_all p (take (prefix_len p r) r) ≡ true
run_passes p [] = refl
run_passes p (x ∷ r) = more_passes p x (prefix_len p r) r (p x) refl (run_passes p r)

less : (n k : ℕ) → 1 + n < suc k → n < k
less n k h = omega arith

at_most : (k : ℕ) (x : ℕ) (r : List ℕ) → suc k ≤ length (x ∷ r) → k ≤ length r
at_most k x r h = omega arith

fails_past : (here rest b : Bool) (n k : ℕ) → here ≡ b → cond b (1 + n) 0 < suc k → (n < k → rest ≡ false) → (here && rest) ≡ false
fails_past here rest true n k e past h = and_false here rest (h (less n k past))
fails_past here rest false n k e past h = ap (λ c. c && rest) e

run_past : (p : ℕ → Bool) (r : List ℕ) (k : ℕ) → prefix_len p r < k → k ≤ length r → list_all p (take k r) ≡ false
run_past p r zero past within = absurd (omega arith)
run_past p [] (suc k) past within = absurd (omega arith)
run_past p (x ∷ r) (suc k) past within =
    fails_past (p x) (list_all p (take k r)) (p x) (prefix_len p r) k refl past (λ l. run_past p r k l (at_most k x r within))

more_of_number : (before x n : ℕ) (r : List ℕ) (b : Bool) → (is_word_byte x || nat_eq x 46 || (is_sign x && is_exponent_mark before)) ≡ b → goes_on_number x (take n r) ≡ true → goes_on_number before (take (cond b (1 + n) 0) (x ∷ r)) ≡ true
unfolding goes_on_number
more_of_number before x n r true e h = ap (λ m. goes_on_number before (take m (x ∷ r))) (one_more n) ∙ ap (λ c. c && goes_on_number x (take n r)) e ∙ h
more_of_number before x n r false e h = refl

number_passes : (before : ℕ) (r : List ℕ) → goes_on_number before (take (number_run before r) r) ≡ true
unfolding goes_on_number number_run
number_passes before [] = refl
number_passes before (x ∷ r) = more_of_number before x (number_run x r) r (is_word_byte x || nat_eq x 46 || (is_sign x && is_exponent_mark before)) refl (number_passes x r)

number_past : (before : ℕ) (r : List ℕ) (k : ℕ) → number_run before r < k → k ≤ length r → goes_on_number before (take k r) ≡ false
unfolding goes_on_number number_run
number_past before r zero past within = absurd (omega arith)
number_past before [] (suc k) past within = absurd (omega arith)
number_past before (x ∷ r) (suc k) past within =
    let here : Bool = is_word_byte x || nat_eq x 46 || (is_sign x && is_exponent_mark before) in
    fails_past here (goes_on_number x (take k r)) here (number_run x r) k refl past (λ l. number_past x r k l (at_most k x r within))

run_within : (b : Bool) (n : ℕ) (x : ℕ) (r : List ℕ) → n ≤ length r → cond b (1 + n) 0 ≤ length (x ∷ r)
run_within true n x r h = omega arith
run_within false n x r h = omega arith

pub number_run-le : (before : ℕ) (r : List ℕ) → number_run before r ≤ length r
unfolding number_run
number_run-le before [] = omega arith
number_run-le before (x ∷ r) = run_within (is_word_byte x || nat_eq x 46 || (is_sign x && is_exponent_mark before)) (number_run x r) x r (number_run-le x r)

-- a word

word_past : (b : ℕ) (r : List ℕ) (k : ℕ) → word_run r < k → k ≤ length r → is_word (b ∷ take k r) ≡ false
unfolding is_word
word_past b r k past within = and_false (is_letter b) (list_all is_word_byte (take k r)) (run_past is_word_byte r k past within)

no_letter_sign : (d : Dialect) (t : List ℕ) → stray_spelling t ≡ None → starts_with_letter t ≡ true → sign_spelling d t ≡ None
unfolding punctuators sign_marks other_punctuators starts_with_letter is_letter
no_letter_sign d t s h = no_long_sign d starts_with_letter t s h refl refl refl

letter-other : (b : ℕ) → is_letter b ≡ true → (nat_eq b 64 ≡ false) × (nat_eq b 96 ≡ false) × (nat_eq b 46 ≡ false)
unfolding is_letter
letter-other b e = (differs is_letter b 64 e refl, differs is_letter b 96 e refl, differs is_letter b 46 e refl)

longer_than_word : (d : Dialect) (b : ℕ) (r : List ℕ) → is_letter b ≡ true → opens d (b ∷ r) ≡ false → (m : ℕ) → suc (word_run r) < m → m ≤ length (b ∷ r) → is_some (spelling_of d (take m (b ∷ r))) ≡ false
unfolding starts_with_letter
longer_than_word d b r e w zero past within = absurd (omega arith)
longer_than_word d b r e w (suc k) past within =
    let o = letter-other b e in
    let n : k ≤ length r = at_most k b r within in
    spelling-none d (b ∷ take k r) (opens-beginning d b r k w) (word_past b r k (omega arith) n) (no_marked b (take k r) o.0 o.1) (no_number b (take k r) (letter-digit b e) o.2)
    (no_space b (take k r) (letter-space b e)) (no_letter_sign d (b ∷ take k r) (no_stray b k r (omega arith) n) e)

pub spelled-word : (d : Dialect) (b : ℕ) (r : List ℕ) → opens d (b ∷ r) ≡ false → is_letter b ≡ true → spelling_of d (b ∷ take (word_run r) r) ≡ Some (word_spelling (b ∷ take (word_run r) r))
unfolding is_word
spelled-word d b r o e = spelling-word d (b ∷ take (word_run r) r) (opens-beginning d b r (word_run r) o) (ap (λ c. c && list_all is_word_byte (take (word_run r) r)) e ∙ run_passes is_word_byte r)

pub word-longest : (d : Dialect) (b : ℕ) (r : List ℕ) → opens d (b ∷ r) ≡ false → is_letter b ≡ true → IsLongest d (b ∷ r) (suc (word_run r))
unfolding is_word
word-longest d b r o e = record {
  some = omega arith;
  within = omega (arith, prefix_len-le-length is_word_byte r);
  spells = ap is_some (spelled-word d b r o e);
  longer = longer_than_word d b r e o;
}

-- a number

digit-other : (b : ℕ) → is_digit b ≡ true → (nat_eq b 64 ≡ false) × (nat_eq b 96 ≡ false)
unfolding is_digit
digit-other b e = (differs is_digit b 64 e refl, differs is_digit b 96 e refl)

-- a digit or a point
is_numeric : ℕ → Bool
is_numeric b = is_digit b || nat_eq b 46

numeric_either : (d p s : Bool) → (d || (p && s)) ≡ true → (d || p) ≡ true
numeric_either true p s h = refl
numeric_either false p s h = (and_true p s h).0

starts-numeric : (b : ℕ) (r : List ℕ) → starts_number (b ∷ r) ≡ true → is_numeric b ≡ true
unfolding is_numeric starts_number
starts-numeric b r h = numeric_either (is_digit b) (nat_eq b 46) (starts_with_digit r) h

numeric-other : (b : ℕ) → is_numeric b ≡ true → (nat_eq b 64 ≡ false) × (nat_eq b 96 ≡ false)
unfolding is_numeric is_digit
numeric-other b e = (differs is_numeric b 64 e refl, differs is_numeric b 96 e refl)

numeric-letter : (b : ℕ) → is_numeric b ≡ true → is_letter b ≡ false
unfolding is_numeric is_letter is_digit
numeric-letter b e = grind (arith, nat_tests)

numeric-space : (b : ℕ) → is_numeric b ≡ true → is_white_space b ≡ false
unfolding is_numeric is_white_space is_digit
numeric-space b e = grind (arith, nat_tests)

-- the point's digit is within a beginning of two bytes
number_beginning : (b : ℕ) (r : List ℕ) (k : ℕ) → 0 < k → starts_number (b ∷ r) ≡ true → starts_number (b ∷ take k r) ≡ true
unfolding starts_number starts_with_digit
number_beginning b r zero some h = absurd (omega arith)
number_beginning b [] (suc k) some h = h
number_beginning b (x ∷ r) (suc k) some h = h

no_number_sign : (d : Dialect) (t : List ℕ) → stray_spelling t ≡ None → starts_number t ≡ true → sign_spelling d t ≡ None
unfolding starts_number starts_with_digit is_digit punctuators sign_marks other_punctuators
no_number_sign d t s h = no_long_sign d starts_number t s h refl refl refl

number_beyond : (b : ℕ) (r : List ℕ) (k : ℕ) → number_run b r < k → k ≤ length r → is_number (b ∷ take k r) ≡ false
unfolding is_number
number_beyond b r k past within = and_false (is_digit b || (nat_eq b 46 && starts_with_digit (take k r))) (goes_on_number b (take k r)) (number_past b r k past within)

longer_than_number : (d : Dialect) (b : ℕ) (r : List ℕ) → opens d (b ∷ r) ≡ false → starts_number (b ∷ r) ≡ true → (m : ℕ) → suc (number_run b r) < m → m ≤ length (b ∷ r) → is_some (spelling_of d (take m (b ∷ r))) ≡ false
longer_than_number d b r p e zero past within = absurd (omega arith)
longer_than_number d b r p e (suc k) past within =
    let n = starts-numeric b r e in
    let o = numeric-other b n in
    let i : k ≤ length r = at_most k b r within in
    spelling-none d (b ∷ take k r) (opens-beginning d b r k p) (no_word b (take k r) (numeric-letter b n)) (no_marked b (take k r) o.0 o.1) (number_beyond b r k (omega arith) i)
    (no_space b (take k r) (numeric-space b n)) (no_number_sign d (b ∷ take k r) (no_stray b k r (omega arith) i) (number_beginning b r k (omega arith) e))

or_right : (a b : Bool) → b ≡ true → (a || b) ≡ true
or_right true b h = refl
or_right false b h = h

or_left : (a b : Bool) → a ≡ true → (a || b) ≡ true
or_left a b h = ap (λ c. c || b) h

some_run : (c : Bool) (n : ℕ) → c ≡ true → 0 < cond c (1 + n) 0
some_run true n h = omega arith
some_run false n h = absurd cc

digit-word : (b : ℕ) → is_digit b ≡ true → is_word_byte b ≡ true
unfolding is_word_byte
digit-word b e = or_right (is_letter b) (is_digit b) e

digit_run : (b x : ℕ) (r : List ℕ) → is_digit x ≡ true → 0 < number_run b (x ∷ r)
unfolding number_run
digit_run b x r e =
    some_run (is_word_byte x || nat_eq x 46 || (is_sign x && is_exponent_mark b)) (number_run x r)
    (or_left (is_word_byte x || nat_eq x 46) (is_sign x && is_exponent_mark b) (or_left (is_word_byte x) (nat_eq x 46) (digit-word x e)))

digit_after : (d p s : Bool) → (d || (p && s)) ≡ true → d ≡ false → s ≡ true
digit_after true p s h e = absurd cc
digit_after false p s h e = (and_true p s h).1

number_reached_by : (b x : ℕ) (r : List ℕ) (d : Bool) → is_digit b ≡ d → starts_number (b ∷ x ∷ r) ≡ true → starts_number (b ∷ take (number_run b (x ∷ r)) (x ∷ r)) ≡ true
unfolding starts_number starts_with_digit
number_reached_by b x r true e h = or_left (is_digit b) (nat_eq b 46 && starts_with_digit (take (number_run b (x ∷ r)) (x ∷ r))) e
number_reached_by b x r false e h = number_beginning b (x ∷ r) (number_run b (x ∷ r)) (digit_run b x r (digit_after (is_digit b) (nat_eq b 46) (is_digit x) h e)) h

number_reached : (b : ℕ) (r : List ℕ) → starts_number (b ∷ r) ≡ true → starts_number (b ∷ take (number_run b r) r) ≡ true
unfolding number_run
number_reached b [] e = e
number_reached b (x ∷ r) e = number_reached_by b x r (is_digit b) refl e

whole_number : (b : ℕ) (t : List ℕ) → starts_number (b ∷ t) ≡ true → goes_on_number b t ≡ true → is_number (b ∷ t) ≡ true
unfolding is_number starts_number
whole_number b t e g = ap (λ c. c && goes_on_number b t) e ∙ g

pub spelled-number : (d : Dialect) (b : ℕ) (r : List ℕ) → opens d (b ∷ r) ≡ false → starts_number (b ∷ r) ≡ true → spelling_of d (b ∷ take (number_run b r) r) ≡ Some (number_spelling (b ∷ take (number_run b r) r))
spelled-number d b r p e =
    let n = starts-numeric b r e in
    let o = numeric-other b n in
    let t : List ℕ = take (number_run b r) r in
    spelling-number d (b ∷ t) (opens-beginning d b r (number_run b r) p) (no_word b t (numeric-letter b n)) (no_marked b t o.0 o.1) (whole_number b t (number_reached b r e) (number_passes b r))

pub number-longest : (d : Dialect) (b : ℕ) (r : List ℕ) → opens d (b ∷ r) ≡ false → starts_number (b ∷ r) ≡ true → IsLongest d (b ∷ r) (suc (number_run b r))
number-longest d b r p e = record {
  some = omega arith;
  within = omega (arith, number_run-le b r);
  spells = ap is_some (spelled-number d b r p e);
  longer = longer_than_number d b r p e;
}

-- a word after `@`, or after a backquote and `@`

no_word_after_at : (b : ℕ) (t : List ℕ) → is_word (b ∷ t) ≡ false → is_marked_word (64 ∷ b ∷ t) ≡ false
unfolding is_marked_word is_word_after_at
no_word_after_at b t e = ap (λ c. c || false) e

no_word_after_backquote : (b : ℕ) (t : List ℕ) → is_word (b ∷ t) ≡ false → is_marked_word (96 ∷ 64 ∷ b ∷ t) ≡ false
unfolding is_marked_word is_word_after_at
no_word_after_backquote b t e = e

a_word_after_at : (b : ℕ) (t : List ℕ) → is_word (b ∷ t) ≡ true → is_marked_word (64 ∷ b ∷ t) ≡ true
unfolding is_marked_word is_word_after_at
a_word_after_at b t e = ap (λ c. c || false) e

a_word_after_backquote : (b : ℕ) (t : List ℕ) → is_word (b ∷ t) ≡ true → is_marked_word (96 ∷ 64 ∷ b ∷ t) ≡ true
unfolding is_marked_word is_word_after_at
a_word_after_backquote b t e = e

whole_word : (b : ℕ) (r : List ℕ) → is_letter b ≡ true → is_word (b ∷ take (word_run r) r) ≡ true
unfolding is_word
whole_word b r e = ap (λ c. c && list_all is_word_byte (take (word_run r) r)) e ∙ run_passes is_word_byte r

no_at_sign : (d : Dialect) (t : List ℕ) → stray_spelling t ≡ None → starts_after_at t ≡ true → sign_spelling d t ≡ None
unfolding starts_after_at starts_with_letter is_letter punctuators sign_marks other_punctuators
no_at_sign d t s h = no_long_sign d starts_after_at t s h refl refl refl

no_backquote_sign : (d : Dialect) (t : List ℕ) → stray_spelling t ≡ None → starts_after_backquote t ≡ true → sign_spelling d t ≡ None
unfolding starts_after_backquote starts_after_at starts_with_letter is_letter punctuators sign_marks other_punctuators
no_backquote_sign d t s h = no_long_sign d starts_after_backquote t s h refl refl refl

at_opens : (d : Dialect) (t : List ℕ) → opens d (64 ∷ t) ≡ false
unfolding opens starts_literal starts_with_quote starts_wide is_quote starts_comment starts_directive starts_with_byte starts_percent_colon
at_opens C90 t = refl
at_opens C95 t = refl

backquote_opens : (d : Dialect) (t : List ℕ) → opens d (96 ∷ t) ≡ false
unfolding opens starts_literal starts_with_quote starts_wide is_quote starts_comment starts_directive starts_with_byte starts_percent_colon
backquote_opens C90 t = refl
backquote_opens C95 t = refl

stray_pair : (b c : ℕ) (t : List ℕ) → stray_spelling (b ∷ c ∷ t) ≡ None
unfolding stray_spelling
stray_pair b c t = refl

at_letter : (b : ℕ) (t : List ℕ) → is_letter b ≡ true → starts_after_at (64 ∷ b ∷ t) ≡ true
unfolding starts_after_at starts_with_letter
at_letter b t e = e

backquote_letter : (b : ℕ) (t : List ℕ) → is_letter b ≡ true → starts_after_backquote (96 ∷ 64 ∷ b ∷ t) ≡ true
unfolding starts_after_backquote starts_after_at starts_with_letter
backquote_letter b t e = e

at-other : (t : List ℕ) → (is_word (64 ∷ t) ≡ false) × (is_number (64 ∷ t) ≡ false) × (is_space (64 ∷ t) ≡ false)
unfolding is_letter is_digit is_white_space
at-other t = (no_word 64 t refl, no_number 64 t refl refl, no_space 64 t refl)

backquote-other : (t : List ℕ) → (is_word (96 ∷ t) ≡ false) × (is_number (96 ∷ t) ≡ false) × (is_space (96 ∷ t) ≡ false)
unfolding is_letter is_digit is_white_space
backquote-other t = (no_word 96 t refl, no_number 96 t refl refl, no_space 96 t refl)

pub spelled-after_at : (d : Dialect) (b : ℕ) (r : List ℕ) → is_letter b ≡ true → spelling_of d (64 ∷ b ∷ take (word_run r) r) ≡ Some (mark_or_refused (find_text (64 ∷ b ∷ take (word_run r) r) word_marks))
spelled-after_at d b r e =
    let t : List ℕ = take (word_run r) r in
    spelling-marked d (64 ∷ b ∷ t) (at_opens d (b ∷ t)) (at-other (b ∷ t)).0 (a_word_after_at b t (whole_word b r e))

pub spelled-after_backquote : (d : Dialect) (b : ℕ) (r : List ℕ) → is_letter b ≡ true → spelling_of d (96 ∷ 64 ∷ b ∷ take (word_run r) r) ≡ Some (mark_or_refused (find_text (96 ∷ 64 ∷ b ∷ take (word_run r) r) word_marks))
spelled-after_backquote d b r e =
    let t : List ℕ = take (word_run r) r in
    spelling-marked d (96 ∷ 64 ∷ b ∷ t) (backquote_opens d (64 ∷ b ∷ t)) (backquote-other (64 ∷ b ∷ t)).0 (a_word_after_backquote b t (whole_word b r e))

longer_after_at : (d : Dialect) (b : ℕ) (r : List ℕ) → is_letter b ≡ true → (m : ℕ) → suc (suc (word_run r)) < m → m ≤ length (64 ∷ b ∷ r) → is_some (spelling_of d (take m (64 ∷ b ∷ r))) ≡ false
longer_after_at d b r e zero past within = absurd (omega arith)
longer_after_at d b r e (suc zero) past within = absurd (omega arith)
longer_after_at d b r e (suc (suc k)) past within =
    let o = at-other (b ∷ take k r) in
    spelling-none d (64 ∷ b ∷ take k r) (at_opens d (b ∷ take k r)) o.0 (no_word_after_at b (take k r) (word_past b r k (omega arith) (omega arith))) o.1 o.2 (no_at_sign d (64 ∷ b ∷ take k r) (stray_pair 64 b (take k r)) (at_letter b (take k r) e))

longer_after_backquote : (d : Dialect) (b : ℕ) (r : List ℕ) → is_letter b ≡ true → (m : ℕ) → suc (suc (suc (word_run r))) < m → m ≤ length (96 ∷ 64 ∷ b ∷ r) → is_some (spelling_of d (take m (96 ∷ 64 ∷ b ∷ r))) ≡ false
longer_after_backquote d b r e zero past within = absurd (omega arith)
longer_after_backquote d b r e (suc zero) past within = absurd (omega arith)
longer_after_backquote d b r e (suc (suc zero)) past within = absurd (omega arith)
longer_after_backquote d b r e (suc (suc (suc k))) past within =
    let o = backquote-other (64 ∷ b ∷ take k r) in
    spelling-none d (96 ∷ 64 ∷ b ∷ take k r) (backquote_opens d (64 ∷ b ∷ take k r)) o.0 (no_word_after_backquote b (take k r) (word_past b r k (omega arith) (omega arith))) o.1 o.2 (no_backquote_sign d (96 ∷ 64 ∷ b ∷ take k r) (stray_pair 96 64 (b ∷ take k r)) (backquote_letter b (take k r) e))

pub after_at-longest : (d : Dialect) (b : ℕ) (r : List ℕ) → is_letter b ≡ true → IsLongest d (64 ∷ b ∷ r) (suc (suc (word_run r)))
after_at-longest d b r e = record {
  some = omega arith;
  within = omega (arith, prefix_len-le-length is_word_byte r);
  spells = ap is_some (spelled-after_at d b r e);
  longer = longer_after_at d b r e;
}

pub after_backquote-longest : (d : Dialect) (b : ℕ) (r : List ℕ) → is_letter b ≡ true → IsLongest d (96 ∷ 64 ∷ b ∷ r) (suc (suc (suc (word_run r))))
after_backquote-longest d b r e = record {
  some = omega arith;
  within = omega (arith, prefix_len-le-length is_word_byte r);
  spells = ap is_some (spelled-after_backquote d b r e);
  longer = longer_after_backquote d b r e;
}

-- white space

no_white_sign : (d : Dialect) (t : List ℕ) → stray_spelling t ≡ None → starts_white t ≡ true → sign_spelling d t ≡ None
unfolding starts_white is_white_space punctuators sign_marks other_punctuators
no_white_sign d t s h = no_long_sign d starts_white t s h refl refl refl

space-other : (b : ℕ) → is_white_space b ≡ true → (nat_eq b 64 ≡ false) × (nat_eq b 96 ≡ false) × (nat_eq b 46 ≡ false)
unfolding is_white_space
space-other b e = (differs is_white_space b 64 e refl, differs is_white_space b 96 e refl, differs is_white_space b 46 e refl)

longer_than_space : (d : Dialect) (b : ℕ) (r : List ℕ) → opens d (b ∷ r) ≡ false → is_white_space b ≡ true → (m : ℕ) → 1 < m → m ≤ length (b ∷ r) → is_some (spelling_of d (take m (b ∷ r))) ≡ false
unfolding starts_white
longer_than_space d b r p e zero past within = absurd (omega arith)
longer_than_space d b r p e (suc zero) past within = absurd (omega arith)
longer_than_space d b [] p e (suc (suc k)) past within = absurd (omega arith)
longer_than_space d b (x ∷ r) p e (suc (suc k)) past within =
    let o = space-other b e in
    let t : List ℕ = x ∷ take k r in
    spelling-none d (b ∷ t) (opens-beginning d b (x ∷ r) (suc k) p) (no_word b t (space-letter b e)) (no_marked b t o.0 o.1) (no_number b t (space-digit b e) o.2) (no_long_space b x (take k r))
    (no_white_sign d (b ∷ t) (stray_pair b x (take k r)) e)

a_space : (b : ℕ) → is_white_space b ≡ true → is_space (b ∷ []) ≡ true
unfolding is_space
a_space b e = e

pub spelled-space : (d : Dialect) (b : ℕ) (r : List ℕ) → opens d (b ∷ r) ≡ false → is_white_space b ≡ true → spelling_of d (b ∷ []) ≡ Some space
spelled-space d b r p e =
    let o = space-other b e in
    spelling-space d (b ∷ []) (opens-beginning d b r 0 p) (no_word b [] (space-letter b e)) (no_marked b [] o.0 o.1) (no_number b [] (space-digit b e) o.2) (a_space b e)

pub space-longest : (d : Dialect) (b : ℕ) (r : List ℕ) → opens d (b ∷ r) ≡ false → is_white_space b ≡ true → IsLongest d (b ∷ r) 1
space-longest d b r p e = record {
  some = omega arith;
  within = omega arith;
  spells = ap is_some (spelled-space d b r p e);
  longer = longer_than_space d b r p e;
}

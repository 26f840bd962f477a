-- Which bytes after a token make no longer spelling.
use Rattle.std.proofs.Common.{◌≡◌, refl, ap, sym, subst, ◌∙◌, ℕ, Bool, true, false, ◌&&◌, ◌||◌, nat_eq, List, [], ◌∷◌, ◌++◌, length, take, None, is_some, append_assoc, arith}
use Rattle.std.specs.List.{list_all, list_any, starts_with}
use Rattle.std.proofs.Math.Seq.{take-append_seam}
use Rattle.std.proofs.lemmas.Bool.{eqb-true, or_left, or_right}
use Rattle.std.proofs.lemmas.Bool.Decides.{nat_tests}
use Rattle.std.proofs.lemmas.Slice.Eq.{bytes_eq-Decides}
use Rattle.c_tokens.specs.Bytes.{is_digit, is_letter, is_word_byte, is_white_space, is_sign, is_exponent_mark, is_quote}
use Rattle.c_tokens.specs.declared.lexical.Dialect.TheVariants.{C90}
use Rattle.c_tokens.specs.declared.token.Punct.{Punct}
use Rattle.c_tokens.specs.declared.token.Punct.TheVariants as punct
use Rattle.c_tokens.specs.Constants.{starts_with_digit}
use Rattle.c_tokens.specs.Literals.{starts_literal, starts_with_quote, starts_wide}
use Rattle.c_tokens.specs.Skipped.{starts_comment, starts_with_byte, starts_directive, starts_percent_colon}
use Rattle.c_tokens.specs.Runs.{opens, starts_with_letter, starts_number}
use Rattle.c_tokens.specs.Spelling.{spelling_of, stray_spelling, sign_spelling, find_text, punctuators, other_punctuators, sign_marks, is_word, is_marked_word, is_word_after_at, is_number, goes_on_number, is_space}
use Rattle.c_tokens.proofs.Tables.{and_true, and_false, differs, find-none, no_long_sign, spelling-none}
use Rattle.c_tokens.proofs.Reaches.{no_word, no_space}
use Rattle.c_text.specs.Texts.{text_of_punct}
use Rattle.text_tokens.specs.Neighbours.{is_dot, is_slash, begins_none}

-- no spelling begins with this text and then this byte
abbrev pub NoLonger : List ℕ → ℕ → Type 0
NoLonger t c = (p : List ℕ) → is_some (spelling_of C90 (t ++ c ∷ p)) ≡ false

-- ---- bytes

letter_digit : (b : ℕ) → is_letter b ≡ true → is_digit b ≡ false
unfolding is_letter is_digit
letter_digit b e = grind (arith, nat_tests)

letter_space : (b : ℕ) → is_letter b ≡ true → is_white_space b ≡ false
unfolding is_letter is_white_space
letter_space b e = grind (arith, nat_tests)

letter_quote : (b : ℕ) → is_letter b ≡ true → is_quote b ≡ false
unfolding is_letter is_quote
letter_quote b e = grind (arith, nat_tests)

word_quote : (b : ℕ) → is_word_byte b ≡ true → is_quote b ≡ false
unfolding is_word_byte is_letter is_digit is_quote
word_quote b e = grind (arith, nat_tests)

-- a digit or a point
pub is_numeric : ℕ → Bool
is_numeric b = is_digit b || nat_eq b 46

numeric_letter : (b : ℕ) → is_numeric b ≡ true → is_letter b ≡ false
unfolding is_numeric is_letter is_digit
numeric_letter b e = grind (arith, nat_tests)

numeric_space : (b : ℕ) → is_numeric b ≡ true → is_white_space b ≡ false
unfolding is_numeric is_white_space is_digit
numeric_space b e = grind (arith, nat_tests)

numeric_quote : (b : ℕ) → is_numeric b ≡ true → is_quote b ≡ false
unfolding is_numeric is_quote is_digit
numeric_quote b e = grind (arith, nat_tests)

-- ---- any text and a byte after it

no_stray : (b : ℕ) (t : List ℕ) (c : ℕ) (p : List ℕ) → stray_spelling (b ∷ (t ++ c ∷ p)) ≡ None
unfolding stray_spelling
no_stray b [] c p = refl
no_stray b (x ∷ t) c p = refl

no_marked : (b : ℕ) (t : List ℕ) → nat_eq b 64 ≡ false → nat_eq b 96 ≡ false → is_marked_word (b ∷ t) ≡ false
unfolding is_marked_word is_word_after_at
no_marked b t e f = rw (e, f)

-- ---- words

no_wide : (t : List ℕ) (c : ℕ) (p : List ℕ) → list_all is_word_byte t ≡ true → is_quote c ≡ false → starts_with_quote (t ++ c ∷ p) ≡ false
unfolding starts_with_quote
no_wide [] c p h q = q
no_wide (x ∷ t) c p h q = word_quote x (and_true (is_word_byte x) (list_all is_word_byte t) h).0

word_opens : (b : ℕ) (r : List ℕ) → is_letter b ≡ true → starts_with_quote r ≡ false → opens C90 (b ∷ r) ≡ false
unfolding opens starts_literal starts_with_quote starts_wide starts_comment starts_directive starts_with_byte is_letter
word_opens b r e q =
    rw (letter_quote b e, and_false (nat_eq b 76) (starts_with_quote r) q, differs is_letter b 47 e refl, differs is_letter b 35 e refl)

not_all : (t : List ℕ) (c : ℕ) (p : List ℕ) → is_word_byte c ≡ false → list_all is_word_byte (t ++ c ∷ p) ≡ false
not_all [] c p h = rw h
not_all (b ∷ t) c p h = and_false (is_word_byte b) (list_all is_word_byte (t ++ c ∷ p)) (not_all t c p h)

no_long_word : (b : ℕ) (t : List ℕ) (c : ℕ) (p : List ℕ) → is_word_byte c ≡ false → is_word (b ∷ (t ++ c ∷ p)) ≡ false
unfolding is_word
no_long_word b t c p h = and_false (is_letter b) (list_all is_word_byte (t ++ c ∷ p)) (not_all t c p h)

letter_no_number : (b : ℕ) (r : List ℕ) → is_letter b ≡ true → is_number (b ∷ r) ≡ false
unfolding is_number is_letter
letter_no_number b r e = rw (letter_digit b e, differs is_letter b 46 e refl)

letter_no_sign : (b : ℕ) (t : List ℕ) (c : ℕ) (p : List ℕ) → is_letter b ≡ true → sign_spelling C90 (b ∷ (t ++ c ∷ p)) ≡ None
unfolding starts_with_letter is_letter punctuators sign_marks other_punctuators
letter_no_sign b t c p e = no_long_sign C90 starts_with_letter (b ∷ (t ++ c ∷ p)) (no_stray b t c p) e refl refl refl

letter_marks : (b : ℕ) → is_letter b ≡ true → (nat_eq b 64 ≡ false) × (nat_eq b 96 ≡ false)
unfolding is_letter
letter_marks b e = (differs is_letter b 64 e refl, differs is_letter b 96 e refl)

-- a byte that is no part of a word and no quote
pub word-no_longer : (t : List ℕ) (c : ℕ) → is_word t ≡ true → is_word_byte c ≡ false → is_quote c ≡ false → NoLonger t c
unfolding is_word
word-no_longer [] c h w q p = absurd cc
word-no_longer (b ∷ t) c h w q p =
    let e = and_true (is_letter b) (list_all is_word_byte t) h in
    let m = letter_marks b e.0 in
    let r = t ++ c ∷ p in
    spelling-none C90 (b ∷ r) (word_opens b r e.0 (no_wide t c p e.1 q)) (no_long_word b t c p w) (no_marked b r m.0 m.1) (letter_no_number b r e.0) (no_space b r (letter_space b e.0)) (letter_no_sign b t c p e.0)

-- ---- numbers

number_opens : (b : ℕ) (r : List ℕ) → is_numeric b ≡ true → opens C90 (b ∷ r) ≡ false
unfolding opens starts_literal starts_with_quote starts_wide starts_comment starts_directive starts_with_byte is_numeric is_digit
number_opens b r e =
    rw (numeric_quote b e, differs is_numeric b 76 e refl, differs is_numeric b 47 e refl, differs is_numeric b 35 e refl)

numeric_marks : (b : ℕ) → is_numeric b ≡ true → (nat_eq b 64 ≡ false) × (nat_eq b 96 ≡ false)
unfolding is_numeric is_digit
numeric_marks b e = (differs is_numeric b 64 e refl, differs is_numeric b 96 e refl)

numeric_either : (d p s : Bool) → (d || (p && s)) ≡ true → (d || p) ≡ true
numeric_either true p s h = refl
numeric_either false p s h = (and_true p s h).0

pub starts-numeric : (b : ℕ) (r : List ℕ) → starts_number (b ∷ r) ≡ true → is_numeric b ≡ true
unfolding is_numeric starts_number
starts-numeric b r h = numeric_either (is_digit b) (nat_eq b 46) (starts_with_digit r) h

no_long_number : (before : ℕ) (t : List ℕ) (c : ℕ) (p : List ℕ) → is_word_byte c ≡ false → nat_eq c 46 ≡ false → is_sign c ≡ false → goes_on_number before (t ++ c ∷ p) ≡ false
unfolding goes_on_number
no_long_number before [] c p w d s = rw (w, d, s)
no_long_number before (b ∷ t) c p w d s =
    and_false (is_word_byte b || nat_eq b 46 || (is_sign b && is_exponent_mark before)) (goes_on_number b (t ++ c ∷ p)) (no_long_number b t c p w d s)

no_whole_number : (b : ℕ) (r : List ℕ) → goes_on_number b r ≡ false → is_number (b ∷ r) ≡ false
unfolding is_number
no_whole_number b r h = and_false (is_digit b || (nat_eq b 46 && starts_with_digit r)) (goes_on_number b r) h

number_further : (b : ℕ) (t : List ℕ) (c : ℕ) (p : List ℕ) → starts_number (b ∷ t) ≡ true → starts_number (b ∷ (t ++ c ∷ p)) ≡ true
unfolding starts_number starts_with_digit
number_further b [] c p h = only (is_digit b) (nat_eq b 46) h where
  only : (d n : Bool) → (d || (n && false)) ≡ true → (d || (n && is_digit c)) ≡ true
  only true n h = refl
  only false true h = absurd cc
  only false false h = absurd cc
number_further b (x ∷ t) c p h = h

number_no_sign : (b : ℕ) (t : List ℕ) (c : ℕ) (p : List ℕ) → starts_number (b ∷ (t ++ c ∷ p)) ≡ true → sign_spelling C90 (b ∷ (t ++ c ∷ p)) ≡ None
unfolding starts_number starts_with_digit is_digit punctuators sign_marks other_punctuators
number_no_sign b t c p h = no_long_sign C90 starts_number (b ∷ (t ++ c ∷ p)) (no_stray b t c p) h refl refl refl

-- what begins a number
pub number-starts : (b : ℕ) (t : List ℕ) → is_number (b ∷ t) ≡ true → starts_number (b ∷ t) ≡ true
unfolding is_number starts_number
number-starts b t h = (and_true (is_digit b || (nat_eq b 46 && starts_with_digit t)) (goes_on_number b t) h).0

pub no_empty_number : is_number [] ≡ true → ⊥
unfolding is_number
no_empty_number h = cc

-- a byte that is no part of a word, no point and no sign
pub number-no_longer : (t : List ℕ) (c : ℕ) → is_number t ≡ true → is_word_byte c ≡ false → nat_eq c 46 ≡ false → is_sign c ≡ false → NoLonger t c
number-no_longer [] c h w d s p = absurd (no_empty_number h)
number-no_longer (b ∷ t) c h w d s p =
    let e = number-starts b t h in
    let n = starts-numeric b t e in
    let m = numeric_marks b n in
    let r = t ++ c ∷ p in
    spelling-none C90 (b ∷ r) (number_opens b r n) (no_word b r (numeric_letter b n)) (no_marked b r m.0 m.1) (no_whole_number b r (no_long_number b t c p w d s)) (no_space b r (numeric_space b n))
    (number_no_sign b t c p (number_further b t c p e))

-- ---- punctuators

-- a text of more than one byte that can only be a punctuator
record IsSignText (u : List ℕ) : Type 0 where
  opens_none : opens C90 u ≡ false
  no_word : is_word u ≡ false
  no_marked_word : is_marked_word u ≡ false
  no_number : is_number u ≡ false
  no_white : is_space u ≡ false
  no_mark : find_text u sign_marks ≡ None
  no_stray : stray_spelling u ≡ None

sign_text : (p : Punct) (c : ℕ) (r : List ℕ) → (is_slash p && nat_eq c 42) ≡ false → (is_dot p && is_digit c) ≡ false → IsSignText (text_of_punct p ++ c ∷ r)
unfolding opens starts_literal starts_with_quote starts_wide is_quote starts_comment starts_with_byte starts_directive starts_percent_colon is_word is_letter is_marked_word is_word_after_at is_number is_digit starts_with_digit is_space find_text sign_marks stray_spelling
sign_text punct.Dot c r s d = record { opens_none = refl; no_word = refl; no_marked_word = refl; no_number = rw d; no_white = refl; no_mark = refl; no_stray = refl }
sign_text punct.Slash c r s d = record { opens_none = rw s; no_word = refl; no_marked_word = refl; no_number = refl; no_white = refl; no_mark = refl; no_stray = refl }
sign_text _ c r s d = record { opens_none = refl; no_word = refl; no_marked_word = refl; no_number = refl; no_white = refl; no_mark = refl; no_stray = refl }

no_sign : (u : List ℕ) → find_text u punctuators ≡ None → find_text u sign_marks ≡ None → stray_spelling u ≡ None → sign_spelling C90 u ≡ None
unfolding sign_spelling find_text
no_sign u a b s = rw (a, b) s

punct_no_longer : (p : Punct) (c : ℕ) → (is_slash p && nat_eq c 42) ≡ false → (is_dot p && is_digit c) ≡ false → ((r : List ℕ) → find_text (text_of_punct p ++ c ∷ r) punctuators ≡ None) → NoLonger (text_of_punct p) c
punct_no_longer p c s d none r =
    let u = text_of_punct p ++ c ∷ r in
    let t = sign_text p c r s d in
    spelling-none C90 u t.opens_none t.no_word t.no_marked_word t.no_number t.no_white (no_sign u (none r) t.no_mark t.no_stray)

starts_so : (t : List ℕ) (c : ℕ) (r : List ℕ) → starts_with nat_eq (t ++ c ∷ r) (t ++ c ∷ []) ≡ true
starts_so t c r =
    let begin : List ℕ = t ++ c ∷ [] in
    let same : take (length begin) (t ++ c ∷ r) ≡ begin = ap (take (length begin)) (sym (append_assoc t (c ∷ []) r)) ∙ take-append_seam begin r in
    (bytes_eq-Decides begin (take (length begin) (t ++ c ∷ r))).1 (sym same)

begun_by_none : (t : List ℕ) (c : ℕ) (r : List ℕ) → begins_none (t ++ c ∷ []) ≡ true → find_text (t ++ c ∷ r) punctuators ≡ None
begun_by_none t c r h = find-none (λ u. starts_with nat_eq u (t ++ c ∷ [])) (t ++ c ∷ r) punctuators (starts_so t c r) h

-- a byte with which no punctuator goes on
pub punct-no_longer : (p : Punct) (c : ℕ) → begins_none (text_of_punct p ++ c ∷ []) ≡ true → (is_slash p && nat_eq c 42) ≡ false → (is_dot p && is_digit c) ≡ false → NoLonger (text_of_punct p) c
punct-no_longer p c h s d = punct_no_longer p c s d (λ r. begun_by_none (text_of_punct p) c r h)

-- a letter, a digit or a quote
is_text_byte : ℕ → Bool
is_text_byte b = is_word_byte b || is_quote b

has_it : (t : List ℕ) (c : ℕ) (r : List ℕ) → is_text_byte c ≡ true → list_any is_text_byte (t ++ c ∷ r) ≡ true
has_it [] c r h = or_left (is_text_byte c) (list_any is_text_byte r) h
has_it (b ∷ t) c r h = or_right (is_text_byte b) (list_any is_text_byte (t ++ c ∷ r)) (has_it t c r h)

no_text_byte : (u : List ℕ) → list_any is_text_byte u ≡ true → find_text u punctuators ≡ None
unfolding punctuators is_text_byte is_word_byte is_letter is_digit is_quote
no_text_byte u h = find-none (list_any is_text_byte) u punctuators h refl

text_byte_no_star : (c : ℕ) → is_text_byte c ≡ true → nat_eq c 42 ≡ false
unfolding is_text_byte is_word_byte is_letter is_digit is_quote
text_byte_no_star c h = differs is_text_byte c 42 h refl

before_text : (p : Punct) (c : ℕ) → is_text_byte c ≡ true → (is_dot p && is_digit c) ≡ false → NoLonger (text_of_punct p) c
before_text p c h d = punct_no_longer p c (and_false (is_slash p) (nat_eq c 42) (text_byte_no_star c h)) d (λ r. no_text_byte (text_of_punct p ++ c ∷ r) (has_it (text_of_punct p) c r h))

-- the first byte of a keyword, a word or a literal
unfoldable pub is_text_start : ℕ → Bool
is_text_start b = is_letter b || is_quote b

start_is_text : (c : ℕ) → is_text_start c ≡ true → is_text_byte c ≡ true
unfolding is_text_start is_text_byte is_word_byte
start_is_text c h = by (is_letter c) (is_digit c) (is_quote c) h where
  by : (l d q : Bool) → (l || q) ≡ true → ((l || d) || q) ≡ true
  by true d q e = refl
  by false true q e = refl
  by false false q e = e

start_no_digit : (c : ℕ) → is_text_start c ≡ true → is_digit c ≡ false
unfolding is_text_start is_letter is_digit is_quote
start_no_digit c h = grind (arith, nat_tests)

pub before-start : (p : Punct) (c : ℕ) → is_text_start c ≡ true → NoLonger (text_of_punct p) c
before-start p c h = before_text p c (start_is_text c h) (and_false (is_dot p) (is_digit c) (start_no_digit c h))

no_point_begins : (p : Punct) → is_dot p ≡ false → begins_none (text_of_punct p ++ 46 ∷ []) ≡ true
unfolding punctuators
no_point_begins punct.Dot h = absurd cc
no_point_begins _ h = refl

digit_is_text : (c : ℕ) → is_digit c ≡ true → is_text_byte c ≡ true
unfolding is_text_byte is_word_byte
digit_is_text c h = or_left (is_letter c || is_digit c) (is_quote c) (or_right (is_letter c) (is_digit c) h)

no_dot : (p : Punct) (c : ℕ) → is_dot p ≡ false → (is_dot p && is_digit c) ≡ false
no_dot p c h = ap (λ b. b && is_digit c) h

before_point : (p : Punct) → is_dot p ≡ false → NoLonger (text_of_punct p) 46
before_point p h = punct-no_longer p 46 (no_point_begins p h) (and_false (is_slash p) false refl) (no_dot p 46 h)

-- the first byte of a number
pub before-numeric : (p : Punct) (c : ℕ) → is_dot p ≡ false → is_numeric c ≡ true → NoLonger (text_of_punct p) c
unfolding is_numeric
before-numeric p c h e = by (is_digit c) (nat_eq c 46) refl refl e where
  by : (d n : Bool) → is_digit c ≡ d → nat_eq c 46 ≡ n → (d || n) ≡ true → NoLonger (text_of_punct p) c
  by true n ed en e = before_text p c (digit_is_text c ed) (no_dot p c h)
  by false true ed en e = subst (NoLonger (text_of_punct p)) (sym (eqb-true c 46 en)) (before_point p h)
  by false false ed en e = absurd cc

-- A token ends where white space or a token apart from it follows.
use Rattle.std.proofs.Common.{◌≡◌, refl, sym, subst, ℕ, Bool, true, false, ◌&&◌, ◌||◌, not, nat_eq, List, [], ◌∷◌, ◌++◌}
use Rattle.std.proofs.lemmas.Bool.{eqb-true, or_parts, or_right}
use Rattle.c_tokens.specs.declared.token.Key.{Key}
use Rattle.c_tokens.specs.declared.token.Punct.{Punct}
use Rattle.c_tokens.specs.declared.token.Punct.TheVariants as punct
use Rattle.c_tokens.specs.declared.token.Key.TheVariants as key
use Rattle.c_tokens.specs.declared.token.Shape.{Shape}
use Rattle.c_tokens.specs.declared.token.Shape.TheVariants as s
use Rattle.c_tokens.specs.Bytes.{is_digit, is_letter, is_word_byte, is_sign, is_quote}
use Rattle.c_tokens.specs.Literals.{starts_literal, starts_with_quote, starts_wide}
use Rattle.c_tokens.specs.Spelling.{punctuators, is_word, is_number}
use Rattle.c_tokens.proofs.Tables.{and_true, not_true}
use Rattle.c_text.specs.Texts.{text_of_key, text_of_punct, text_of_word, text_of_shape}
use Rattle.text_tokens.specs.Written.{IsWritten}
use Rattle.text_tokens.specs.Neighbours.{first_byte, is_dot, is_slash, begins_none, ends_punct, goes_on_number, ends_word, ends_number, ends_sign, is_apart}
use Rattle.text_tokens.proofs.Sorts.{word-text, integer-text, floating-text, character-text, string-text, IsLiteralText}
use Rattle.text_tokens.proofs.Literals.{literal-no_longer}
use Rattle.text_tokens.proofs.Longer.{NoLonger, is_numeric, starts-numeric, number-starts, no_empty_number, is_text_start, word-no_longer, number-no_longer, punct-no_longer, before-start, before-numeric}
use Rattle.text_tokens.proofs.Pieces.{Stops}

-- ---- how a text begins

abbrev begins_with : (ℕ → Bool) → List ℕ → Bool
begins_with p [] = false
begins_with p (b ∷ t) = p b

stops_at : (p : ℕ → Bool) (a t r : List ℕ) → begins_with p t ≡ true → ((c : ℕ) → p c ≡ true → NoLonger a c) → Stops a (t ++ r)
stops_at p a [] r h f = absurd cc
stops_at p a (c ∷ t) r h f = f c h

key_begins : (k : Key) → begins_with is_text_start (text_of_key k) ≡ true
unfolding is_text_start is_letter
key_begins key.Auto = refl
key_begins _ = refl

letter_starts : (l q : Bool) → l ≡ true → (l || q) ≡ true
letter_starts true q e = refl
letter_starts false q e = absurd cc

word_begins : (t : List ℕ) → is_word t ≡ true → begins_with is_text_start t ≡ true
unfolding is_word is_text_start
word_begins [] h = absurd cc
word_begins (b ∷ t) h = letter_starts (is_letter b) (is_quote b) (and_true (is_letter b) _ h).0

number_begins : (t : List ℕ) → is_number t ≡ true → begins_with is_numeric t ≡ true
number_begins [] h = absurd (no_empty_number h)
number_begins (b ∷ t) h = starts-numeric b t (number-starts b t h)

wide_letter : (b : ℕ) (w : Bool) → nat_eq b 76 ≡ w → w ≡ true → is_letter b ≡ true
unfolding is_letter
wide_letter b true e h = subst (λ x. is_letter x ≡ true) (sym (eqb-true b 76 e)) refl
wide_letter b false e h = absurd cc

start_by : (b : ℕ) (more q w : Bool) → nat_eq b 76 ≡ w → (q || (w && more)) ≡ true → (is_letter b || q) ≡ true
start_by b more true w e h = or_right (is_letter b) true refl
start_by b more false w e h = letter_starts (is_letter b) false (wide_letter b w e (and_true w more h).0)

literal_begins : (t : List ℕ) → starts_literal t ≡ true → begins_with is_text_start t ≡ true
unfolding starts_literal starts_with_quote starts_wide is_text_start
literal_begins [] h = absurd cc
literal_begins (b ∷ t) h = start_by b (starts_with_quote t) (is_quote b) (nat_eq b 76) refl h

-- ---- a token and a byte after it

abbrev NoLongerAll : List ℕ → Type 0
NoLongerAll t = (c : ℕ) → NoLonger t c

literal_ends : (t : List ℕ) → IsLiteralText t → NoLongerAll t
literal_ends t h c p = literal-no_longer t c p h

key_is_word : (k : Key) → is_word (text_of_key k) ≡ true
unfolding is_word is_letter is_word_byte
key_is_word key.Auto = refl
key_is_word _ = refl

punct_ends : (p : Punct) (c : ℕ) → ends_punct p c ≡ true → NoLonger (text_of_punct p) c
punct_ends p c h =
    let outer = and_true (begins_none (text_of_punct p ++ c ∷ []) && not (is_slash p && nat_eq c 42)) (not (is_dot p && is_digit c)) h in
    let inner = and_true (begins_none (text_of_punct p ++ c ∷ [])) (not (is_slash p && nat_eq c 42)) outer.0 in
    punct-no_longer p c inner.0 (not_true (is_slash p && nat_eq c 42) inner.1) (not_true (is_dot p && is_digit c) outer.1)

-- ---- white space

punct_space : (p : Punct) → ends_punct p 32 ≡ true
unfolding punctuators is_digit
punct_space punct.Comma = refl
punct_space _ = refl

punct_line_feed : (p : Punct) → ends_punct p 10 ≡ true
unfolding punctuators is_digit
punct_line_feed punct.Comma = refl
punct_line_feed _ = refl

pub space-ends : (names : List (List ℕ)) (a : Shape) → IsWritten names a → NoLonger (text_of_shape names a) 32
unfolding is_word_byte is_letter is_digit is_quote is_sign
space-ends names (s.Key k) w = word-no_longer (text_of_key k) 32 (key_is_word k) refl refl
space-ends names (s.Punct p) w = punct_ends p 32 (punct_space p)
space-ends names (s.Mark m) w = absurd w
space-ends names (s.Word n) w = word-no_longer (text_of_word names n) 32 (word-text _ w.spelled) refl refl
space-ends names (s.Int n) w = number-no_longer (text_of_word names n) 32 (integer-text _ w.spelled) refl refl refl
space-ends names (s.Float n) w = number-no_longer (text_of_word names n) 32 (floating-text _ w.spelled) refl refl refl
space-ends names (s.Char n) w = literal_ends (text_of_word names n) (character-text _ w.spelled) 32
space-ends names (s.Str n) w = literal_ends (text_of_word names n) (string-text _ w.spelled) 32
space-ends names s.End w = absurd w

pub line_feed-ends : (names : List (List ℕ)) (a : Shape) → IsWritten names a → NoLonger (text_of_shape names a) 10
unfolding is_word_byte is_letter is_digit is_quote is_sign
line_feed-ends names (s.Key k) w = word-no_longer (text_of_key k) 10 (key_is_word k) refl refl
line_feed-ends names (s.Punct p) w = punct_ends p 10 (punct_line_feed p)
line_feed-ends names (s.Mark m) w = absurd w
line_feed-ends names (s.Word n) w = word-no_longer (text_of_word names n) 10 (word-text _ w.spelled) refl refl
line_feed-ends names (s.Int n) w = number-no_longer (text_of_word names n) 10 (integer-text _ w.spelled) refl refl refl
line_feed-ends names (s.Float n) w = number-no_longer (text_of_word names n) 10 (floating-text _ w.spelled) refl refl refl
line_feed-ends names (s.Char n) w = literal_ends (text_of_word names n) (character-text _ w.spelled) 10
line_feed-ends names (s.Str n) w = literal_ends (text_of_word names n) (string-text _ w.spelled) 10
line_feed-ends names s.End w = absurd w

-- ---- a token after a token

-- a punctuator after any text
punct_follows : (q : Punct) (a r : List ℕ) → NoLonger a (first_byte q) → Stops a (text_of_punct q ++ r)
punct_follows punct.Comma a r h = h
punct_follows _ a r h = h

no_word_byte : (q : Punct) → (is_word_byte (first_byte q) ≡ false) × (is_quote (first_byte q) ≡ false)
unfolding is_word_byte is_letter is_digit is_quote
no_word_byte punct.Comma = (refl, refl)
no_word_byte _ = (refl, refl)

after_word : (names : List (List ℕ)) (t : List ℕ) (b : Shape) (r : List ℕ) → is_word t ≡ true → ends_word b ≡ true → Stops t (text_of_shape names b ++ r)
after_word names t (s.Punct q) r h e = let n = no_word_byte q in punct_follows q t r (word-no_longer t (first_byte q) h n.0 n.1)
after_word names t _ r h e = absurd cc

after_number : (names : List (List ℕ)) (t : List ℕ) (b : Shape) (r : List ℕ) → is_number t ≡ true → ends_number b ≡ true → Stops t (text_of_shape names b ++ r)
after_number names t (s.Punct q) r h e =
    let n = or_parts (nat_eq (first_byte q) 46) (is_sign (first_byte q)) (not_true (goes_on_number (first_byte q)) e) in
    punct_follows q t r (number-no_longer t (first_byte q) h (no_word_byte q).0 n.0 n.1)
after_number names t _ r h e = absurd cc

after_literal : (t r : List ℕ) → NoLongerAll t → Stops t r
after_literal t [] h = tt
after_literal t (c ∷ r) h = h c

after_sign : (names : List (List ℕ)) (p : Punct) (b : Shape) (r : List ℕ) → IsWritten names b → ends_sign p b ≡ true → Stops (text_of_punct p) (text_of_shape names b ++ r)
after_sign names p (s.Key k) r w e = stops_at is_text_start (text_of_punct p) (text_of_key k) r (key_begins k) (before-start p)
after_sign names p (s.Punct q) r w e = punct_follows q (text_of_punct p) r (punct_ends p (first_byte q) e)
after_sign names p (s.Mark m) r w e = absurd w
after_sign names p (s.Word n) r w e = stops_at is_text_start (text_of_punct p) (text_of_word names n) r (word_begins _ (word-text _ w.spelled)) (before-start p)
after_sign names p (s.Int n) r w e = stops_at is_numeric (text_of_punct p) (text_of_word names n) r (number_begins _ (integer-text _ w.spelled)) (λ c. before-numeric p c (not_true (is_dot p) e))
after_sign names p (s.Float n) r w e = stops_at is_numeric (text_of_punct p) (text_of_word names n) r (number_begins _ (floating-text _ w.spelled)) (λ c. before-numeric p c (not_true (is_dot p) e))
after_sign names p (s.Char n) r w e = let l = character-text _ w.spelled in stops_at is_text_start (text_of_punct p) (text_of_word names n) r (literal_begins _ l.literal) (before-start p)
after_sign names p (s.Str n) r w e = let l = string-text _ w.spelled in stops_at is_text_start (text_of_punct p) (text_of_word names n) r (literal_begins _ l.literal) (before-start p)
after_sign names p s.End r w e = absurd w

-- side by side, tokens that are apart make no longer spelling
pub apart-stops : (names : List (List ℕ)) (a b : Shape) (r : List ℕ) → IsWritten names a → IsWritten names b → is_apart a b ≡ true → Stops (text_of_shape names a) (text_of_shape names b ++ r)
apart-stops names (s.Key k) b r wa wb e = after_word names (text_of_key k) b r (key_is_word k) e
apart-stops names (s.Punct p) b r wa wb e = after_sign names p b r wb e
apart-stops names (s.Mark m) b r wa wb e = absurd wa
apart-stops names (s.Word n) b r wa wb e = after_word names (text_of_word names n) b r (word-text _ wa.spelled) e
apart-stops names (s.Int n) b r wa wb e = after_number names (text_of_word names n) b r (integer-text _ wa.spelled) e
apart-stops names (s.Float n) b r wa wb e = after_number names (text_of_word names n) b r (floating-text _ wa.spelled) e
apart-stops names (s.Char n) b r wa wb e = after_literal (text_of_word names n) (text_of_shape names b ++ r) (literal_ends _ (character-text _ wa.spelled))
apart-stops names (s.Str n) b r wa wb e = after_literal (text_of_word names n) (text_of_shape names b ++ r) (literal_ends _ (string-text _ wa.spelled))
apart-stops names s.End b r wa wb e = absurd wa

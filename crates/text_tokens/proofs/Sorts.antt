-- By which test a token is found: what a text is that stands for a word, a number or a literal.
use Rattle.std.proofs.Common.{◌≡◌, refl, ap, ℕ, ◌+◌, ◌-◌, Bool, true, false, ◌||◌, nat_eq, nat_le, cond, List, [], ◌∷◌, length, take, drop, Option, Some, None}
use Rattle.std.proofs.lemmas.Bool.{eqb-true}
use Rattle.c_tokens.specs.declared.lexical.Dialect.TheVariants.{C90}
use Rattle.c_tokens.specs.declared.lexical.LexCause.{LexCause}
use Rattle.c_tokens.specs.declared.lexical.LexCause.TheVariants as cause
use Rattle.c_tokens.specs.declared.token.Key.{Key}
use Rattle.c_tokens.specs.declared.token.Punct.{Punct}
use Rattle.c_tokens.specs.declared.token.Mark.{Mark}
use Rattle.c_tokens.specs.declared.token.TheConstants.{MAX_WORD_BYTES}
use Rattle.c_tokens.specs.Constants.{is_integer, is_floating}
use Rattle.c_tokens.specs.Literals.{starts_literal, contents_start, quote_of, Met, inside, closing, spoiled, ending}
use Rattle.c_tokens.specs.Skipped.{starts_comment, through_close, starts_directive, line_run, is_marker_line}
use Rattle.c_tokens.specs.Spelling.{Sort, keyword, punctuator, mark, word, integer, floating, character, string, Spelling, space, marker, token, refused, token_or, mark_or_refused, keyword_or, find_text, keywords, punctuators, sign_marks, word_marks, others_in, is_word, is_marked_word, is_number, is_space, word_spelling, number_spelling, closed_spelling, spoiled_spelling, ended_spelling, closed_comment, literal_spelling, comment_spelling, directive_spelling, stray_spelling, sign_spelling, plain_spelling, spelling_of}
use Rattle.c_tokens.proofs.Opened.{ends_closed}

abbrev of_some : (Spelling → Bool) → Option Spelling → Bool
of_some q None = false
of_some q (Some a) = q a

-- a test that only words, numbers and literals pass
record IsOfTexts (q : Spelling → Bool) : Type 0 where
  no_space : q space ≡ false
  no_marker : q marker ≡ false
  no_refused : (n : ℕ) (c : LexCause) → q (refused n c) ≡ false
  no_keyword : (k : Key) → q (token (keyword k)) ≡ false
  no_punctuator : (p : Punct) → q (token (punctuator p)) ≡ false
  no_mark : (m : Mark) → q (token (mark m)) ≡ false

-- where a spelling that passes is found
data From (q : Spelling → Bool) (t : List ℕ) : Type 0 where
  from_literal : starts_literal t ≡ true → of_some q (literal_spelling t) ≡ true → From q t
  from_word : is_word t ≡ true → q (word_spelling t) ≡ true → From q t
  from_number : is_number t ≡ true → q (number_spelling t) ≡ true → From q t

module _ (q : Spelling → Bool) (h : IsOfTexts q) where
  either : (b : Bool) (x y : Option Spelling) → of_some q x ≡ false → of_some q y ≡ false → of_some q (cond b x y) ≡ false
  either true x y e f = e
  either false x y e f = f

  closed : (rest : ℕ) (o : Option ℕ) → of_some q (closed_comment rest o) ≡ false
  closed rest None = h.no_refused 0 cause.OpenComment
  closed rest (Some n) = either (nat_eq n rest) (Some space) None h.no_space refl

  comment : (t : List ℕ) → of_some q (comment_spelling t) ≡ false
  unfolding comment_spelling
  comment t = closed (length t - 2) (through_close (drop 2 t))

  directive : (t : List ℕ) → of_some q (directive_spelling t) ≡ false
  unfolding directive_spelling
  directive t =
      either (is_marker_line (take (line_run t) t)) (cond (nat_le (length t) (line_run t + 1)) (Some marker) None) (Some (refused 0 cause.Directive))
      (either (nat_le (length t) (line_run t + 1)) (Some marker) None h.no_marker refl) (h.no_refused 0 cause.Directive)

  marked : (o : Option Mark) → q (mark_or_refused o) ≡ false
  marked (Some m) = h.no_mark m
  marked None = h.no_refused 0 cause.BadMark

  stray : (t : List ℕ) → of_some q (stray_spelling t) ≡ false
  unfolding stray_spelling
  stray [] = refl
  stray (b ∷ []) = h.no_refused 0 (cond (nat_eq b 64 || nat_eq b 96) cause.BadMark cause.StrayByte)
  stray (b ∷ x ∷ t) = refl

  one_sign : {A : Type 0} (sort : A → Sort) (o : Option A) (other : Option Spelling) → ((a : A) → q (token (sort a)) ≡ false) → of_some q other ≡ false → of_some q (token_or sort o other) ≡ false
  one_sign sort (Some a) other e f = e a
  one_sign sort None other e f = f

  sign : (t : List ℕ) → of_some q (sign_spelling C90 t) ≡ false
  unfolding sign_spelling
  sign t =
      let other : Option Spelling = token_or punctuator (find_text t (others_in C90)) (stray_spelling t) in
      one_sign punctuator (find_text t punctuators) (token_or mark (find_text t sign_marks) other) h.no_punctuator
      (one_sign mark (find_text t sign_marks) other h.no_mark (one_sign punctuator (find_text t (others_in C90)) (stray_spelling t) h.no_punctuator (stray t)))

  found : (t : List ℕ) (l c d w m n s : Bool) → starts_literal t ≡ l → is_word t ≡ w → is_number t ≡ n
      → of_some q (cond l (literal_spelling t) (cond c (comment_spelling t) (cond d (directive_spelling t)
      (cond w (Some (word_spelling t)) (cond m (Some (mark_or_refused (find_text t word_marks))) (cond n (Some (number_spelling t)) (cond s (Some space) (sign_spelling C90 t)))))))) ≡ true → From q t
  found t true c d w m n s el ew en e = from_literal el e
  found t false true d w m n s el ew en e = absurd (let no = comment t in cc)
  found t false false true w m n s el ew en e = absurd (let no = directive t in cc)
  found t false false false true m n s el ew en e = from_word ew e
  found t false false false false true n s el ew en e = absurd (let no = marked (find_text t word_marks) in cc)
  found t false false false false false true s el ew en e = from_number en e
  found t false false false false false false true el ew en e = absurd (let no = h.no_space in cc)
  found t false false false false false false false el ew en e = absurd (let no = sign t in cc)

  from : (t : List ℕ) → of_some q (spelling_of C90 t) ≡ true → From q t
  unfolding spelling_of plain_spelling
  from t e = found t (starts_literal t) (starts_comment t) (starts_directive C90 t) (is_word t) (is_marked_word t) (is_number t) (is_space t) refl refl refl e

-- ---- the three tests

abbrev is_word_spelling : Spelling → Bool
is_word_spelling (token word) = true
is_word_spelling _ = false

abbrev is_number_spelling : Spelling → Bool
is_number_spelling (token integer) = true
is_number_spelling (token floating) = true
is_number_spelling _ = false

abbrev is_literal_spelling : Spelling → Bool
is_literal_spelling (token character) = true
is_literal_spelling (token string) = true
is_literal_spelling _ = false

of_words : IsOfTexts is_word_spelling
of_words = record { no_space = refl; no_marker = refl; no_refused = λ n c. refl; no_keyword = λ k. refl; no_punctuator = λ p. refl; no_mark = λ m. refl }

of_numbers : IsOfTexts is_number_spelling
of_numbers = record { no_space = refl; no_marker = refl; no_refused = λ n c. refl; no_keyword = λ k. refl; no_punctuator = λ p. refl; no_mark = λ m. refl }

of_literals : IsOfTexts is_literal_spelling
of_literals = record { no_space = refl; no_marker = refl; no_refused = λ n c. refl; no_keyword = λ k. refl; no_punctuator = λ p. refl; no_mark = λ m. refl }

-- a literal's ending stands for no word and no number
module _ (q : Spelling → Bool) (h : IsOfTexts q) (no_character : q (token character) ≡ false) (no_string : q (token string) ≡ false) where
  closed_no : (b e : Bool) → q (cond b (token string) (cond e (refused 0 cause.EmptyChar) (token character))) ≡ false
  closed_no true e = no_string
  closed_no false true = h.no_refused 0 cause.EmptyChar
  closed_no false false = no_character

  spoiled_no : (place : ℕ) (c : LexCause) → q (spoiled_spelling place c) ≡ false
  spoiled_no place cause.BadEscape = h.no_refused place cause.BadEscape
  spoiled_no place _ = h.no_refused 0 _

  ended_no : (t : List ℕ) (place : ℕ) (m : Met) → of_some q (ended_spelling t place m) ≡ false
  ended_no t place inside = refl
  ended_no t place closing = either q h (nat_eq (place + 1) (length t)) (Some (closed_spelling (quote_of t) (nat_eq place (contents_start t)))) None (closed_no (nat_eq (quote_of t) 34) (nat_eq place (contents_start t))) refl
  ended_no t place (spoiled c) = spoiled_no place c

  literal_no : (t : List ℕ) → of_some q (literal_spelling t) ≡ false
  unfolding literal_spelling
  literal_no t = ended_no t (ending t).place (ending t).found

-- ---- words

number_no_word : (i f : Bool) → is_word_spelling (cond i (token integer) (cond f (token floating) (refused 0 cause.BadNumber))) ≡ false
number_no_word true f = refl
number_no_word false true = refl
number_no_word false false = refl

number_spelling_no_word : (t : List ℕ) → is_word_spelling (number_spelling t) ≡ false
unfolding number_spelling
number_spelling_no_word t = number_no_word (is_integer t) (is_floating t)

word_from : (t : List ℕ) → From is_word_spelling t → is_word t ≡ true
word_from t (from_literal l e) = absurd (let no = literal_no is_word_spelling of_words refl refl t in cc)
word_from t (from_word w e) = w
word_from t (from_number n e) = absurd (let no = number_spelling_no_word t in cc)

pub word-text : (t : List ℕ) → spelling_of C90 t ≡ Some (token word) → is_word t ≡ true
word-text t e = word_from t (from is_word_spelling of_words t (ap (of_some is_word_spelling) e))

-- ---- numbers

word_no_number : (o : Option Key) (short : Bool) → is_number_spelling (keyword_or o (cond short (token word) (refused 0 cause.LongWord))) ≡ false
word_no_number (Some k) short = refl
word_no_number None true = refl
word_no_number None false = refl

word_spelling_no_number : (t : List ℕ) → is_number_spelling (word_spelling t) ≡ false
unfolding word_spelling
word_spelling_no_number t = word_no_number (find_text t keywords) (nat_le (length t) MAX_WORD_BYTES)

number_from : (t : List ℕ) → From is_number_spelling t → is_number t ≡ true
number_from t (from_literal l e) = absurd (let no = literal_no is_number_spelling of_numbers refl refl t in cc)
number_from t (from_word w e) = absurd (let no = word_spelling_no_number t in cc)
number_from t (from_number n e) = n

pub integer-text : (t : List ℕ) → spelling_of C90 t ≡ Some (token integer) → is_number t ≡ true
integer-text t e = number_from t (from is_number_spelling of_numbers t (ap (of_some is_number_spelling) e))

pub floating-text : (t : List ℕ) → spelling_of C90 t ≡ Some (token floating) → is_number t ≡ true
floating-text t e = number_from t (from is_number_spelling of_numbers t (ap (of_some is_number_spelling) e))

-- ---- literals

-- what a literal's text is
pub record IsLiteralText (t : List ℕ) : Type 0 where
  pub place : ℕ
  pub last : place + 1 ≡ length t
  pub literal : starts_literal t ≡ true
  pub ends : ending t ≡ ends_closed place

word_no_literal : (o : Option Key) (short : Bool) → is_literal_spelling (keyword_or o (cond short (token word) (refused 0 cause.LongWord))) ≡ false
word_no_literal (Some k) short = refl
word_no_literal None true = refl
word_no_literal None false = refl

word_spelling_no_literal : (t : List ℕ) → is_literal_spelling (word_spelling t) ≡ false
unfolding word_spelling
word_spelling_no_literal t = word_no_literal (find_text t keywords) (nat_le (length t) MAX_WORD_BYTES)

number_no_literal : (i f : Bool) → is_literal_spelling (cond i (token integer) (cond f (token floating) (refused 0 cause.BadNumber))) ≡ false
number_no_literal true f = refl
number_no_literal false true = refl
number_no_literal false false = refl

number_spelling_no_literal : (t : List ℕ) → is_literal_spelling (number_spelling t) ≡ false
unfolding number_spelling
number_spelling_no_literal t = number_no_literal (is_integer t) (is_floating t)

spoiled_no_literal : (place : ℕ) (c : LexCause) → is_literal_spelling (spoiled_spelling place c) ≡ false
spoiled_no_literal place cause.BadEscape = refl
spoiled_no_literal place _ = refl

at_last : (b : Bool) (x : Spelling) → of_some is_literal_spelling (cond b (Some x) None) ≡ true → b ≡ true
at_last true x e = refl
at_last false x e = absurd cc

ended : (t : List ℕ) (place : ℕ) (m : Met) → of_some is_literal_spelling (ended_spelling t place m) ≡ true → (place + 1 ≡ length t) × (m ≡ closing)
ended t place inside e = absurd cc
ended t place closing e = (eqb-true (place + 1) (length t) (at_last (nat_eq (place + 1) (length t)) (closed_spelling (quote_of t) (nat_eq place (contents_start t))) e), refl)
ended t place (spoiled c) e = absurd (let no = spoiled_no_literal place c in cc)

literal_from : (t : List ℕ) → From is_literal_spelling t → IsLiteralText t
unfolding literal_spelling
literal_from t (from_literal l e) =
    let h = ended t (ending t).place (ending t).found e in
    record { place = (ending t).place; last = h.0; literal = l; ends = ap (λ m. record { place = (ending t).place; found = m }) h.1 }
literal_from t (from_word w e) = absurd (let no = word_spelling_no_literal t in cc)
literal_from t (from_number n e) = absurd (let no = number_spelling_no_literal t in cc)

pub character-text : (t : List ℕ) → spelling_of C90 t ≡ Some (token character) → IsLiteralText t
character-text t e = literal_from t (from is_literal_spelling of_literals t (ap (of_some is_literal_spelling) e))

pub string-text : (t : List ℕ) → spelling_of C90 t ≡ Some (token string) → IsLiteralText t
string-text t e = literal_from t (from is_literal_spelling of_literals t (ap (of_some is_literal_spelling) e))

-- No token and no comment ends in white space.
use Rattle.std.proofs.Common.{◌≡◌, refl, sym, ap, ◌∙◌, ℕ, zero, suc, ◌+◌, ◌-◌, ◌<◌, ◌≤◌, Bool, true, false, cond, not, ◌&&◌, ◌||◌, List, [], ◌∷◌, length, take, drop, reverse, get_or, Option, Some, None, option_map, unwrap_or, nat_eq, nat_le, subst, arith}
use Rattle.std.specs.List.{list_all, prefix_len, take_while}
use Rattle.std.proofs.lemmas.Bool.{eqb-true}
use Rattle.std.proofs.lemmas.Bool.Decides.{nat_tests}
use Rattle.std.proofs.lemmas.Grind.{common_steps}
use Rattle.std.proofs.lemmas.List.Sums.{take_while-cons, prefix_len_stops}
use Rattle.std.proofs.lemmas.List.{length-take-le, length-drop, get_or-take}
use Rattle.c_tokens.specs.declared.lexical.Dialect.{Dialect}
use Rattle.c_tokens.specs.declared.lexical.LexCause.{LexCause}
use Rattle.c_tokens.specs.declared.lexical.LexCause.TheVariants as cause
use Rattle.c_tokens.specs.Bytes.{is_digit, is_letter, is_word_byte, is_white_space, is_sign, is_exponent_mark, is_quote, is_no_line_feed}
use Rattle.c_tokens.specs.declared.token.TheConstants.{MAX_WORD_BYTES}
use Rattle.c_tokens.specs.declared.token.Key.{Key}
use Rattle.c_tokens.specs.declared.token.Mark.{Mark}
use Rattle.c_tokens.specs.Constants.{starts_with_digit, is_integer, is_floating}
use Rattle.c_tokens.specs.Literals.{starts_wide, starts_literal, contents_start, quote_of, Met, inside, closing, spoiled, met, Ending, unless_inside, first_met, ending}
use Rattle.c_tokens.specs.Skipped.{starts_with_byte, starts_comment, through_close, starts_directive, line_run, is_marker_line, stands_first}
use Rattle.c_tokens.specs.Spelling.{find_text, keywords, word_marks, others_in, punctuators, other_punctuators, sign_marks, Sort, keyword, punctuator, mark, word, integer, floating, character, string, keyword_or, token_or, mark_or_refused, word_spelling, number_spelling, is_word, is_word_after_at, is_marked_word, is_number, goes_on_number, is_space, Spelling, space, marker, token, refused, closed_spelling, ended_spelling, closed_comment, literal_spelling, comment_spelling, directive_spelling, stray_spelling, sign_spelling, plain_spelling, spelling_of}
use Rattle.c_tokens.specs.Tokens.{longest, meaning}
use Rattle.c_tokens.specs.Runs.{OpensLine}
use Rattle.c_tokens.proofs.Longest.{longest-is}
use Rattle.c_tokens.proofs.Tables.{and_true, no_long_sign, spelling-directive}
use Rattle.c_tokens.proofs.Steps.{IsRead}
use Rattle.c_tokens.proofs.Opened.{whole-longest, marker-two, line-run-le, opens-take, marker-longest, other-directive, quote-is, closes-at, closing-byte}

unfoldable pub last_of : List ℕ → ℕ
last_of [] = 0
last_of (b ∷ []) = b
last_of (b ∷ x ∷ t) = last_of (x ∷ t)

pub last-is : (t : List ℕ) → 0 < length t → last_of t ≡ get_or t (length t - 1) 0
unfolding last_of
last-is [] some = absurd (omega arith)
last-is (b ∷ []) some = refl
last-is (b ∷ x ∷ t) some = last-is (x ∷ t) (omega arith) ∙ further where
  further : get_or (x ∷ t) (length (x ∷ t) - 1) 0 ≡ get_or (b ∷ x ∷ t) (length (b ∷ x ∷ t) - 1) 0
  further = grind (arith, common_steps)

-- words and numbers

word_dark : (b : ℕ) → is_word_byte b ≡ true → is_white_space b ≡ false
unfolding is_word_byte is_letter is_digit is_white_space
word_dark b e = grind (arith, nat_tests)

point_dark : (b : ℕ) → nat_eq b 46 ≡ true → is_white_space b ≡ false
unfolding is_white_space
point_dark b e = grind (arith, nat_tests)

sign_dark : (b : ℕ) → is_sign b ≡ true → is_white_space b ≡ false
unfolding is_sign is_white_space
sign_dark b e = grind (arith, nat_tests)

letter_word : (b : ℕ) → is_letter b ≡ true → is_word_byte b ≡ true
unfolding is_word_byte
letter_word b e = ap (λ c. c || is_digit b) e

all_last : (p : ℕ → Bool) (b : ℕ) (t : List ℕ) → p b ≡ true → list_all p t ≡ true → p (last_of (b ∷ t)) ≡ true
unfolding last_of
all_last p b [] h all = h
all_last p b (x ∷ t) h all = let a = and_true (p x) (list_all p t) all in all_last p x t a.0 a.1

word_last : (t : List ℕ) → is_word t ≡ true → is_white_space (last_of t) ≡ false
unfolding is_word
word_last [] e = absurd cc
word_last (b ∷ t) e = let h = and_true (is_letter b) (list_all is_word_byte t) e in word_dark (last_of (b ∷ t)) (all_last is_word_byte b t (letter_word b h.0) h.1)

after_at_last : (t : List ℕ) → is_word_after_at t ≡ true → is_white_space (last_of t) ≡ false
unfolding is_word_after_at is_word last_of
after_at_last [] e = absurd cc
after_at_last (b ∷ []) e = absurd (let h = (and_true (nat_eq b 64) false e).1 in cc)
after_at_last (b ∷ x ∷ t) e = word_last (x ∷ t) (and_true (nat_eq b 64) (is_word (x ∷ t)) e).1

either_last : (b : ℕ) (t : List ℕ) (a c : Bool) → is_word_after_at (b ∷ t) ≡ a → (nat_eq b 96 && is_word_after_at t) ≡ c → (a || c) ≡ true → is_white_space (last_of (b ∷ t)) ≡ false
unfolding is_word_after_at last_of
either_last b t true c e f h = after_at_last (b ∷ t) e
either_last b [] false true e f h = absurd (let g = (and_true (nat_eq b 96) false f).1 in cc)
either_last b (x ∷ t) false true e f h = after_at_last (x ∷ t) (and_true (nat_eq b 96) (is_word_after_at (x ∷ t)) f).1
either_last b t false false e f h = absurd cc

marked_last : (t : List ℕ) → is_marked_word t ≡ true → is_white_space (last_of t) ≡ false
unfolding is_marked_word
marked_last [] e = absurd cc
marked_last (b ∷ t) e = either_last b t (is_word_after_at (b ∷ t)) (nat_eq b 96 && is_word_after_at t) refl refl e

goes_dark : (b : ℕ) (w p s e : Bool) → is_word_byte b ≡ w → nat_eq b 46 ≡ p → is_sign b ≡ s → (w || p || (s && e)) ≡ true → is_white_space b ≡ false
goes_dark b true p s e hw hp hs h = word_dark b hw
goes_dark b false true s e hw hp hs h = point_dark b hp
goes_dark b false false true e hw hp hs h = sign_dark b hs
goes_dark b false false false e hw hp hs h = absurd cc

goes_last : (before b : ℕ) (t : List ℕ) → goes_on_number before (b ∷ t) ≡ true → is_white_space (last_of (b ∷ t)) ≡ false
unfolding goes_on_number last_of
goes_last before b [] e = goes_dark b (is_word_byte b) (nat_eq b 46) (is_sign b) (is_exponent_mark before) refl refl refl (and_true (is_word_byte b || nat_eq b 46 || (is_sign b && is_exponent_mark before)) true e).0
goes_last before b (x ∷ t) e = goes_last b x t (and_true (is_word_byte b || nat_eq b 46 || (is_sign b && is_exponent_mark before)) (goes_on_number b (x ∷ t)) e).1

number_last : (t : List ℕ) → 2 ≤ length t → is_number t ≡ true → is_white_space (last_of t) ≡ false
unfolding is_number last_of
number_last [] two e = absurd cc
number_last (b ∷ []) two e = absurd (omega arith)
number_last (b ∷ x ∷ t) two e = goes_last b x t (and_true (is_digit b || (nat_eq b 46 && starts_with_digit (x ∷ t))) (goes_on_number b (x ∷ t)) e).1

space_last : (t : List ℕ) → 2 ≤ length t → is_space t ≡ true → ⊥
unfolding is_space
space_last [] two e = cc
space_last (b ∷ []) two e = omega arith
space_last (b ∷ x ∷ t) two e = cc

-- signs

ends_white : List ℕ → Bool
ends_white t = is_white_space (last_of t)

no_long_stray : (t : List ℕ) → 2 ≤ length t → stray_spelling t ≡ None
unfolding stray_spelling
no_long_stray [] two = absurd (omega arith)
no_long_stray (b ∷ []) two = absurd (omega arith)
no_long_stray (b ∷ x ∷ t) two = refl

no_white_sign : (d : Dialect) (t : List ℕ) → 2 ≤ length t → ends_white t ≡ true → sign_spelling d t ≡ None
unfolding ends_white last_of is_white_space punctuators other_punctuators sign_marks
no_white_sign d t two e = no_long_sign d ends_white t (no_long_stray t two) e refl refl refl

sign_last : (d : Dialect) (t : List ℕ) (s : Spelling) → 2 ≤ length t → sign_spelling d t ≡ Some s → is_white_space (last_of t) ≡ false
unfolding ends_white
sign_last d t s two e = by (is_white_space (last_of t)) refl where
  by : (b : Bool) → is_white_space (last_of t) ≡ b → b ≡ false
  by true h = absurd (let n = no_white_sign d t two h in cc)
  by false h = refl

plain_last : (d : Dialect) (t : List ℕ) (s : Spelling) (w m n b : Bool) → is_word t ≡ w → is_marked_word t ≡ m → is_number t ≡ n → is_space t ≡ b → 2 ≤ length t
    → (w ≡ false → m ≡ false → n ≡ false → b ≡ false → sign_spelling d t ≡ Some s) → is_white_space (last_of t) ≡ false
plain_last d t s true m n b hw hm hn hb two e = word_last t hw
plain_last d t s false true n b hw hm hn hb two e = marked_last t hm
plain_last d t s false false true b hw hm hn hb two e = number_last t two hn
plain_last d t s false false false true hw hm hn hb two e = absurd (space_last t two hb)
plain_last d t s false false false false hw hm hn hb two e = sign_last d t s two (e refl refl refl refl)

if_false : {A : Type 0} (b : Bool) (x y z : A) → cond b x y ≡ z → b ≡ false → y ≡ z
if_false true x y z h e = absurd cc
if_false false x y z h e = h

plain_dark : (d : Dialect) (t : List ℕ) (s : Spelling) → 2 ≤ length t → plain_spelling d t ≡ Some s → is_white_space (last_of t) ≡ false
unfolding plain_spelling
plain_dark d t s two e =
    plain_last d t s (is_word t) (is_marked_word t) (is_number t) (is_space t) refl refl refl refl two
    (λ w m n b. if_false (is_space t) _ _ _ (if_false (is_number t) _ _ _ (if_false (is_marked_word t) _ _ _ (if_false (is_word t) _ _ _ e w) m) n) b)

-- comments

close_last_here : (b : ℕ) (r : List ℕ) (n : ℕ) (here : Bool) (o : Option ℕ) → (nat_eq b 42 && starts_with_byte 47 r) ≡ here → cond here (Some 2) (option_map suc o) ≡ Some n → n ≡ length (b ∷ r)
    → ((k : ℕ) → o ≡ Some k → k ≡ length r → last_of r ≡ 47) → 0 < length r → last_of (b ∷ r) ≡ 47
unfolding last_of starts_with_byte
close_last_here b [] n here o e h l go some = absurd (omega arith)
close_last_here b (x ∷ []) n true o e h l go some = eqb-true x 47 (and_true (nat_eq b 42) (nat_eq x 47) e).1
close_last_here b (x ∷ y ∷ r) n true o e h l go some = absurd (let two : 2 ≡ n = cc in omega (arith, two))
close_last_here b (x ∷ r) n false None e h l go some = absurd cc
close_last_here b (x ∷ r) n false (Some k) e h l go some = let one : suc k ≡ n = cc in go k refl (omega (arith, one))

nothing_closed : through_close [] ≡ None
unfolding through_close
nothing_closed = refl

one_open : (b : ℕ) (n : ℕ) → through_close (b ∷ []) ≡ Some n → ⊥
unfolding through_close starts_with_byte
one_open b n e = by (nat_eq b 42) e where
  by : (c : Bool) → cond (c && false) (Some 2) None ≡ Some n → ⊥
  by true h = cc
  by false h = cc

close_last : (r : List ℕ) (n : ℕ) → through_close r ≡ Some n → n ≡ length r → last_of r ≡ 47
unfolding through_close
close_last [] n e l = absurd cc
close_last (b ∷ []) n e l = absurd (one_open b n e)
close_last (b ∷ x ∷ r) n e l = close_last_here b (x ∷ r) n (nat_eq b 42 && starts_with_byte 47 (x ∷ r)) (through_close (x ∷ r)) refl e l (λ k f g. close_last (x ∷ r) k f g) (omega arith)

-- a space or a token
abbrev pub IsDark : Spelling → Type 0
IsDark space = Unit {0}
IsDark (token sort) = Unit {0}
IsDark _ = ⊥

no_dark : (n : ℕ) (c : LexCause) (s : Spelling) → Some (refused n c) ≡ Some s → IsDark s → ⊥
no_dark n c s e dark = let same : refused n c ≡ s = cc in subst IsDark (sym same) dark

comment_ends : (r : List ℕ) (s : Spelling) (o : Option ℕ) → through_close r ≡ o → closed_comment (length r) o ≡ Some s → IsDark s → last_of r ≡ 47
comment_ends r s None e h dark = absurd (no_dark 0 cause.OpenComment s h dark)
comment_ends r s (Some n) e h dark = by (nat_eq n (length r)) refl h where
  by : (b : Bool) → nat_eq n (length r) ≡ b → cond b (Some space) None ≡ Some s → last_of r ≡ 47
  by true f g = close_last r n e (eqb-true n (length r) f)
  by false f g = absurd cc

last_further : (b c : ℕ) (r : List ℕ) → 0 < length r → last_of (b ∷ c ∷ r) ≡ last_of r
unfolding last_of
last_further b c [] some = absurd (omega arith)
last_further b c (x ∷ r) some = refl

nothing_last : (n : ℕ) → last_of [] ≡ suc n → ⊥
unfolding last_of
nothing_last n e = cc

some_last : (r : List ℕ) → last_of r ≡ 47 → 0 < length r
some_last [] e = absurd (nothing_last 46 e)
some_last (b ∷ r) e = omega arith

is_dark_slash : is_white_space 47 ≡ false
unfolding is_white_space
is_dark_slash = refl

comment_dark : (t : List ℕ) (s : Spelling) → 2 ≤ length t → comment_spelling t ≡ Some s → IsDark s → is_white_space (last_of t) ≡ false
unfolding comment_spelling
comment_dark [] s two e dark = absurd (omega arith)
comment_dark (b ∷ []) s two e dark = absurd (omega arith)
comment_dark (b ∷ c ∷ r) s two e dark =
    let l : length (b ∷ c ∷ r) - 2 ≡ length r = omega arith in
    let last : last_of r ≡ 47 = comment_ends r s (through_close r) refl (ap (λ n. closed_comment n (through_close r)) (sym l) ∙ e) dark in
    ap is_white_space (last_further b c r (some_last r last) ∙ last) ∙ is_dark_slash

-- literals

quote_dark : (q : ℕ) → is_quote q ≡ true → is_white_space q ≡ false
unfolding is_quote is_white_space
quote_dark q h = grind (arith, nat_tests)

literal_ends : (t : List ℕ) (s : Spelling) (place : ℕ) (m : Met) → starts_literal t ≡ true → 2 ≤ length t → ending t ≡ record { place = place; found = m } → ended_spelling t place m ≡ Some s → IsDark s → is_white_space (last_of t) ≡ false
unfolding ending
literal_ends t s place inside l two e h dark = absurd cc
literal_ends t s place (spoiled cause.BadEscape) l two e h dark = absurd (no_dark place cause.BadEscape s h dark)
literal_ends t s place (spoiled cause.StrayByte) l two e h dark = absurd (no_dark 0 cause.StrayByte s h dark)
literal_ends t s place (spoiled cause.OpenComment) l two e h dark = absurd (no_dark 0 cause.OpenComment s h dark)
literal_ends t s place (spoiled cause.OpenLiteral) l two e h dark = absurd (no_dark 0 cause.OpenLiteral s h dark)
literal_ends t s place (spoiled cause.EmptyChar) l two e h dark = absurd (no_dark 0 cause.EmptyChar s h dark)
literal_ends t s place (spoiled cause.BadNumber) l two e h dark = absurd (no_dark 0 cause.BadNumber s h dark)
literal_ends t s place (spoiled cause.LongWord) l two e h dark = absurd (no_dark 0 cause.LongWord s h dark)
literal_ends t s place (spoiled cause.LongLiteral) l two e h dark = absurd (no_dark 0 cause.LongLiteral s h dark)
literal_ends t s place (spoiled cause.Directive) l two e h dark = absurd (no_dark 0 cause.Directive s h dark)
literal_ends t s place (spoiled cause.BadMark) l two e h dark = absurd (no_dark 0 cause.BadMark s h dark)
literal_ends t s place closing l two e h dark = by (nat_eq (place + 1) (length t)) refl h where
  by : (b : Bool) → nat_eq (place + 1) (length t) ≡ b → cond b (Some (closed_spelling (quote_of t) (nat_eq place (contents_start t)))) None ≡ Some s → is_white_space (last_of t) ≡ false
  by false f g = absurd cc
  by true f g =
      let c = closes-at (quote_of t) t (contents_start t) (length t - contents_start t) place e in
      let at : length t - 1 ≡ place = omega (arith, eqb-true (place + 1) (length t) f) in
      ap is_white_space (last-is t (omega arith) ∙ ap (λ i. get_or t i 0) at ∙ closing-byte (quote_of t) t place c.here) ∙ quote_dark (quote_of t) (quote-is t l)

literal_dark : (t : List ℕ) (s : Spelling) → starts_literal t ≡ true → 2 ≤ length t → literal_spelling t ≡ Some s → IsDark s → is_white_space (last_of t) ≡ false
unfolding literal_spelling
literal_dark t s l two e dark = literal_ends t s (ending t).place (ending t).found l two refl e dark

-- markers

directive_dark : (t : List ℕ) (s : Spelling) → directive_spelling t ≡ Some s → IsDark s → ⊥
unfolding directive_spelling
directive_dark t s e dark = by (is_marker_line (take (line_run t) t)) (nat_le (length t) (line_run t + 1)) e where
  by : (a b : Bool) → cond a (cond b (Some marker) None) (Some (refused 0 cause.Directive)) ≡ Some s → ⊥
  by true true h = let same : marker ≡ s = cc in subst IsDark (sym same) dark
  by true false h = cc
  by false b h = no_dark 0 cause.Directive s h dark

dark_by : (d : Dialect) (t : List ℕ) (s : Spelling) (l c o : Bool) → starts_literal t ≡ l → starts_comment t ≡ c → starts_directive d t ≡ o → 2 ≤ length t → IsDark s
    → cond l (literal_spelling t) (cond c (comment_spelling t) (cond o (directive_spelling t) (plain_spelling d t))) ≡ Some s → is_white_space (last_of t) ≡ false
dark_by d t s true c o hl hc ho two dark e = literal_dark t s hl two e dark
dark_by d t s false true o hl hc ho two dark e = comment_dark t s two e dark
dark_by d t s false false true hl hc ho two dark e = absurd (directive_dark t s e dark)
dark_by d t s false false false hl hc ho two dark e = plain_dark d t s two e

pub dark-end : (d : Dialect) (t : List ℕ) (s : Spelling) → spelling_of d t ≡ Some s → 2 ≤ length t → IsDark s → is_white_space (get_or t (length t - 1) 0) ≡ false
unfolding spelling_of
dark-end d t s e two dark = ap is_white_space (sym (last-is t (omega arith))) ∙ dark_by d t s (starts_literal t) (starts_comment t) (starts_directive d t) refl refl refl two dark e

-- where only white space stands before a place

pub first-nothing : (bytes : List ℕ) → stands_first bytes 0 ≡ true
unfolding stands_first
first-nothing bytes = refl

one_more : (bytes : List ℕ) (i : ℕ) → i < length bytes → reverse (take (i + 1) bytes) ≡ get_or bytes i 0 ∷ reverse (take i bytes)
one_more bytes i within = grind (arith, common_steps)

first_by : (b : ℕ) (r : List ℕ) (f : Bool) → nat_eq b 10 ≡ f → list_all is_white_space (cond (not f) (b ∷ take_while is_no_line_feed r) []) ≡ (f || (is_white_space b && list_all is_white_space (take_while is_no_line_feed r)))
first_by b r true e = refl
first_by b r false e = refl

pub first-next : (bytes : List ℕ) (i : ℕ) → i < length bytes → stands_first bytes (i + 1) ≡ (nat_eq (get_or bytes i 0) 10 || (is_white_space (get_or bytes i 0) && stands_first bytes i))
unfolding stands_first is_no_line_feed
first-next bytes i within =
    ap (λ r. list_all is_white_space (take_while is_no_line_feed r)) (one_more bytes i within)
    ∙ ap (list_all is_white_space) (take_while-cons is_no_line_feed (get_or bytes i 0) (reverse (take i bytes)))
    ∙ first_by (get_or bytes i 0) (reverse (take i bytes)) (nat_eq (get_or bytes i 0) 10) refl

-- what holds of white space, tokens and what is refused at its start

module _ (P : Spelling → Type 0) (at_space : P space) (at_token : (sort : Sort) → P (token sort)) (at_start : (c : LexCause) → P (refused 0 c)) where
  Each : Option Spelling → Type 0
  Each None = Unit {0}
  Each (Some s) = P s

  either : (b : Bool) (x y : Option Spelling) → Each x → Each y → Each (cond b x y)
  either true x y h k = h
  either false x y h k = k

  either_some : (b : Bool) (x y : Spelling) → P x → P y → P (cond b x y)
  either_some true x y h k = h
  either_some false x y h k = k

  ended_each : (t : List ℕ) (place : ℕ) (m : Met) → P (refused place cause.BadEscape) → Each (ended_spelling t place m)
  unfolding Each
  ended_each t place inside h = tt
  ended_each t place closing h =
      either (nat_eq (place + 1) (length t)) (Some (closed_spelling (quote_of t) (nat_eq place (contents_start t)))) None
      (either_some (nat_eq (quote_of t) 34) (token string) (cond (nat_eq place (contents_start t)) (refused 0 cause.EmptyChar) (token character)) (at_token string)
      (either_some (nat_eq place (contents_start t)) (refused 0 cause.EmptyChar) (token character) (at_start cause.EmptyChar) (at_token character))) tt
  ended_each t place (spoiled cause.BadEscape) h = h
  ended_each t place (spoiled cause.StrayByte) h = at_start cause.StrayByte
  ended_each t place (spoiled cause.OpenComment) h = at_start cause.OpenComment
  ended_each t place (spoiled cause.OpenLiteral) h = at_start cause.OpenLiteral
  ended_each t place (spoiled cause.EmptyChar) h = at_start cause.EmptyChar
  ended_each t place (spoiled cause.BadNumber) h = at_start cause.BadNumber
  ended_each t place (spoiled cause.LongWord) h = at_start cause.LongWord
  ended_each t place (spoiled cause.LongLiteral) h = at_start cause.LongLiteral
  ended_each t place (spoiled cause.Directive) h = at_start cause.Directive
  ended_each t place (spoiled cause.BadMark) h = at_start cause.BadMark

  literal_each : (t : List ℕ) → P (refused (ending t).place cause.BadEscape) → Each (literal_spelling t)
  unfolding literal_spelling Each
  literal_each t h = ended_each t (ending t).place (ending t).found h

  closed_each : (rest : ℕ) (o : Option ℕ) → Each (closed_comment rest o)
  unfolding Each
  closed_each rest None = at_start cause.OpenComment
  closed_each rest (Some n) = either (nat_eq n rest) (Some space) None at_space tt

  comment_each : (t : List ℕ) → Each (comment_spelling t)
  unfolding comment_spelling Each
  comment_each t = closed_each (length t - 2) (through_close (drop 2 t))

  keyword_each : (o : Option Key) (s : Spelling) → P s → P (keyword_or o s)
  keyword_each None s h = h
  keyword_each (Some k) s h = at_token (keyword k)

  word_each : (t : List ℕ) → P (word_spelling t)
  unfolding word_spelling
  word_each t = keyword_each (find_text t keywords) (cond (nat_le (length t) MAX_WORD_BYTES) (token word) (refused 0 cause.LongWord)) (either_some (nat_le (length t) MAX_WORD_BYTES) (token word) (refused 0 cause.LongWord) (at_token word) (at_start cause.LongWord))

  mark_each : (o : Option Mark) → P (mark_or_refused o)
  mark_each None = at_start cause.BadMark
  mark_each (Some m) = at_token (mark m)

  number_each : (t : List ℕ) → P (number_spelling t)
  unfolding number_spelling
  number_each t =
      either_some (is_integer t) (token integer) (cond (is_floating t) (token floating) (refused 0 cause.BadNumber)) (at_token integer)
      (either_some (is_floating t) (token floating) (refused 0 cause.BadNumber) (at_token floating) (at_start cause.BadNumber))

  token_each : {A : Type 0} (sort : A → Sort) (o : Option A) (other : Option Spelling) → Each other → Each (token_or sort o other)
  unfolding Each
  token_each sort None other h = h
  token_each sort (Some a) other h = at_token (sort a)

  stray_each : (t : List ℕ) → Each (stray_spelling t)
  unfolding stray_spelling Each
  stray_each [] = tt
  stray_each (b ∷ []) = at_start (cond (nat_eq b 64 || nat_eq b 96) cause.BadMark cause.StrayByte)
  stray_each (b ∷ x ∷ t) = tt

  sign_each : (d : Dialect) (t : List ℕ) → Each (sign_spelling d t)
  unfolding sign_spelling
  sign_each d t = token_each punctuator (find_text t punctuators) _ (token_each mark (find_text t sign_marks) _ (token_each punctuator (find_text t (others_in d)) _ (stray_each t)))

  plain_each : (d : Dialect) (t : List ℕ) → Each (plain_spelling d t)
  unfolding plain_spelling Each
  plain_each d t =
      either (is_word t) (Some (word_spelling t)) _ (word_each t)
      (either (is_marked_word t) (Some (mark_or_refused (find_text t word_marks))) _ (mark_each (find_text t word_marks))
      (either (is_number t) (Some (number_spelling t)) _ (number_each t) (either (is_space t) (Some space) (sign_spelling d t) at_space (sign_each d t))))

  each_some : (o : Option Spelling) (s : Spelling) → o ≡ Some s → Each o → P s
  unfolding Each
  each_some o s e h = subst Each e h

-- only a directive is a marker

abbrev NoMarker : Spelling → Type 0
NoMarker marker = ⊥
NoMarker _ = Unit {0}

literal_no : (t : List ℕ) → literal_spelling t ≡ Some marker → ⊥
literal_no t e = each_some NoMarker tt (λ sort. tt) (λ c. tt) (literal_spelling t) marker e (literal_each NoMarker tt (λ sort. tt) (λ c. tt) t tt)

comment_no : (t : List ℕ) → comment_spelling t ≡ Some marker → ⊥
comment_no t e = each_some NoMarker tt (λ sort. tt) (λ c. tt) (comment_spelling t) marker e (comment_each NoMarker tt (λ sort. tt) (λ c. tt) t)

plain_no : (d : Dialect) (t : List ℕ) → plain_spelling d t ≡ Some marker → ⊥
plain_no d t e = each_some NoMarker tt (λ sort. tt) (λ c. tt) (plain_spelling d t) marker e (plain_each NoMarker tt (λ sort. tt) (λ c. tt) d t)

line_by : (d : Dialect) (t : List ℕ) (l c o : Bool) → starts_literal t ≡ l → starts_comment t ≡ c → starts_directive d t ≡ o
    → cond l (literal_spelling t) (cond c (comment_spelling t) (cond o (directive_spelling t) (plain_spelling d t))) ≡ Some marker → OpensLine d t
line_by d t true c o hl hc ho e = absurd (literal_no t e)
line_by d t false true o hl hc ho e = absurd (comment_no t e)
line_by d t false false true hl hc ho e = record { no_literal = hl; no_comment = hc; directive = ho }
line_by d t false false false hl hc ho e = absurd (plain_no d t e)

opens_line : (d : Dialect) (t : List ℕ) → spelling_of d t ≡ Some marker → OpensLine d t
unfolding spelling_of
opens_line d t e = line_by d t (starts_literal t) (starts_comment t) (starts_directive d t) refl refl refl e

marker_two_by : (t : List ℕ) (is : Bool) → is_marker_line (take (line_run t) t) ≡ is → cond is (cond (nat_le (length t) (line_run t + 1)) (Some marker) None) (Some (refused 0 cause.Directive)) ≡ Some marker → 2 ≤ line_run t
marker_two_by t true e h = marker-two t (line_run t) e
marker_two_by t false e h = absurd cc

line_two : (d : Dialect) (t : List ℕ) → spelling_of d t ≡ Some marker → 2 ≤ line_run t
unfolding directive_spelling
line_two d t e = let o = opens_line d t e in marker_two_by t (is_marker_line (take (line_run t) t)) refl (sym (spelling-directive d t o.no_literal o.no_comment o.directive) ∙ e)

-- the longest marker has the rest of its line
marker_feed : (d : Dialect) (text : List ℕ) (n : ℕ) (is : Bool) → OpensLine d text → is_marker_line (take (line_run text) text) ≡ is → longest d text ≡ n → n < length text → n ≡ line_run text + 1
marker_feed d text n false o is e more =
    absurd (omega (arith, e, longest-is d text (length text) (whole-longest d text (refused 0 cause.Directive) (omega (arith, more)) (other-directive d text o is))))
marker_feed d text n true o is e more = by (nat_le (length text) (line_run text)) refl where
  by : (b : Bool) → nat_le (length text) (line_run text) ≡ b → n ≡ line_run text + 1
  by true f =
      let long : length text ≤ line_run text = grind (arith, nat_tests) in
      absurd (omega (arith, e, longest-is d text (length text) (marker-longest d text (length text) o is (line-run-le text) (omega arith) (omega (arith, long)) (λ m past within. absurd (omega arith)))))
  by false f =
      let short : line_run text < length text = grind (arith, nat_tests) in
      sym e ∙ longest-is d text (line_run text + 1) (marker-longest d text (line_run text + 1) o is (omega arith) (omega (arith, short)) (omega arith) (λ m past within. past))

is_feed : (b : ℕ) → is_no_line_feed b ≡ false → nat_eq b 10 ≡ true
unfolding is_no_line_feed
is_feed b e = by (nat_eq b 10) e where
  by : (c : Bool) → not c ≡ false → c ≡ true
  by true h = refl
  by false h = absurd cc

feed_at : (text : List ℕ) → line_run text < length text → nat_eq (get_or text (line_run text) 0) 10 ≡ true
unfolding line_run
feed_at text short = is_feed (get_or text (prefix_len is_no_line_feed text) 0) (prefix_len_stops is_no_line_feed text 0 short)

meant : (o : Option Spelling) (s : Spelling) → (refused 0 cause.StrayByte ≡ s → ⊥) → unwrap_or o (refused 0 cause.StrayByte) ≡ s → o ≡ Some s
meant None s differs e = absurd (differs e)
meant (Some x) s differs e = ap Some e

spelled_as : (d : Dialect) (t : List ℕ) (s : Spelling) → IsRead s → meaning d t ≡ s → spelling_of d t ≡ Some s
unfolding meaning
spelled_as d t s read e = meant (spelling_of d t) s (λ p. subst IsRead (sym p) read) e

within_take : (text : List ℕ) (n : ℕ) → n ≤ length text → line_run (take n text) ≤ n
within_take text n within = omega (arith, line-run-le (take n text), length-take-le n text within)

marker_last : (d : Dialect) (text : List ℕ) (n : ℕ) → longest d text ≡ n → meaning d (take n text) ≡ marker → n < length text → nat_eq (get_or text (n - 1) 0) 10 ≡ true
marker_last d text n e m more =
    let spelled = spelled_as d (take n text) marker tt m in
    let two : 2 ≤ n = omega (arith, line_two d (take n text) spelled, within_take text n (omega arith)) in
    let o = opens-take d text n two (opens_line d (take n text) spelled) in
    let f : n ≡ line_run text + 1 = marker_feed d text n (is_marker_line (take (line_run text) text)) o refl e more in
    let at : n - 1 ≡ line_run text = omega (arith, f) in
    ap (λ i. nat_eq (get_or text i 0) 10) at ∙ feed_at text (omega (arith, f))

-- where the line stands after a piece

get_further : (bytes : List ℕ) (at i : ℕ) → get_or (drop at bytes) i 0 ≡ get_or bytes (at + i) 0
get_further bytes at i = grind (arith, common_steps)

abbrev after_byte : ℕ → Bool → Bool
after_byte b first = nat_eq b 10 || (is_white_space b && first)

feed_decides : (b : ℕ) (x y : Bool) → nat_eq b 10 ≡ true → after_byte b x ≡ after_byte b y
feed_decides b x y e = ap (λ c. c || (is_white_space b && x)) e ∙ sym (ap (λ c. c || (is_white_space b && y)) e)

dark_decides : (b : ℕ) (x y : Bool) → is_white_space b ≡ false → after_byte b x ≡ after_byte b y
dark_decides b x y e = ap (λ c. nat_eq b 10 || (c && x)) e ∙ sym (ap (λ c. nat_eq b 10 || (c && y)) e)

dark_last : (d : Dialect) (bytes : List ℕ) (at n : ℕ) (s : Spelling) → 2 ≤ n → longest d (drop at bytes) ≡ n → meaning d (take n (drop at bytes)) ≡ s → IsRead s → IsDark s → at + n < length bytes → (x y : Bool)
    → after_byte (get_or bytes (at + n - 1) 0) x ≡ after_byte (get_or bytes (at + n - 1) 0) y
dark_last d bytes at n s two l m read dark more x y =
    let rest = drop at bytes in
    let t = take n rest in
    let long : length t ≡ n = length-take-le n rest (omega (arith, length-drop at bytes)) in
    let place : at + (n - 1) ≡ at + n - 1 = omega (arith, two) in
    let end : is_white_space (get_or t (n - 1) 0) ≡ false = ap (λ k. is_white_space (get_or t (k - 1) 0)) (sym long) ∙ dark-end d t s (spelled_as d t s read m) (omega (arith, long, two)) dark in
    dark_decides (get_or bytes (at + n - 1) 0) x y
    (ap (λ i. is_white_space (get_or bytes i 0)) (sym place) ∙ ap is_white_space (sym (get_further bytes at (n - 1)) ∙ sym (get_or-take n rest (n - 1) 0 (omega (arith, two)))) ∙ end)

same_last : (d : Dialect) (bytes : List ℕ) (at n : ℕ) (s : Spelling) → 2 ≤ n → longest d (drop at bytes) ≡ n → meaning d (take n (drop at bytes)) ≡ s → IsRead s → at + n < length bytes → (x y : Bool)
    → after_byte (get_or bytes (at + n - 1) 0) x ≡ after_byte (get_or bytes (at + n - 1) 0) y
same_last d bytes at n (refused offset c) two l m read more x y = absurd read
same_last d bytes at n marker two l m read more x y =
    let rest = drop at bytes in
    let place : at + (n - 1) ≡ at + n - 1 = omega (arith, two) in
    feed_decides (get_or bytes (at + n - 1) 0) x y (ap (λ i. nat_eq (get_or bytes i 0) 10) (sym place) ∙ ap (λ b. nat_eq b 10) (sym (get_further bytes at (n - 1))) ∙ marker_last d rest n l m (omega (arith, length-drop at bytes)))
same_last d bytes at n space two l m read more x y = dark_last d bytes at n space two l m tt tt more x y
same_last d bytes at n (token sort) two l m read more x y = dark_last d bytes at n (token sort) two l m tt tt more x y

after_by : (d : Dialect) (bytes : List ℕ) (at n : ℕ) (s : Spelling) (one : Bool) → nat_eq n 1 ≡ one → 0 < n → longest d (drop at bytes) ≡ n → meaning d (take n (drop at bytes)) ≡ s → IsRead s → at + n < length bytes
    → stands_first bytes (at + n) ≡ after_byte (get_or bytes (at + n - 1) 0) (stands_first bytes at)
after_by d bytes at n s true e some l m read more =
    let is : n ≡ 1 = eqb-true n 1 e in
    let place : at + n - 1 ≡ at = omega (arith, is) in
    ap (λ k. stands_first bytes (at + k)) is ∙ first-next bytes at (omega (arith, is)) ∙ ap (λ i. after_byte (get_or bytes i 0) (stands_first bytes at)) (sym place)
after_by d bytes at n s false e some l m read more =
    let two : 2 ≤ n = grind (arith, nat_tests) in
    let place : at + n ≡ at + n - 1 + 1 = omega (arith, two) in
    ap (stands_first bytes) place ∙ first-next bytes (at + n - 1) (omega (arith, two)) ∙ same_last d bytes at n s two l m read more (stands_first bytes (at + n - 1)) (stands_first bytes at)

pub first-after : (d : Dialect) (bytes : List ℕ) (at n : ℕ) (s : Spelling) → 0 < n → longest d (drop at bytes) ≡ n → meaning d (take n (drop at bytes)) ≡ s → IsRead s → at + n < length bytes
    → stands_first bytes (at + n) ≡ (nat_eq (get_or bytes (at + n - 1) 0) 10 || (is_white_space (get_or bytes (at + n - 1) 0) && stands_first bytes at))
first-after d bytes at n s some l m read more = after_by d bytes at n s (nat_eq n 1) refl some l m read more

-- the byte at which a spelling is spoiled is not far beyond it

abbrev Near : ℕ → Spelling → Type 0
Near n (refused offset c) = offset ≤ n
Near n _ = Unit {0}

near_here : (m : Met) (i k : ℕ) (next : Ending) → next.place ≤ i + 1 + k → (unless_inside m i next).place ≤ i + suc k
near_here inside i k next h = omega (arith, h)
near_here closing i k next h = omega arith
near_here (spoiled c) i k next h = omega arith

place_near : (q : ℕ) (t : List ℕ) (i k : ℕ) → (first_met q t i k).place ≤ i + k
unfolding first_met
place_near q t i zero = omega arith
place_near q t i (suc k) = near_here (met q t i) i k (first_met q t (i + 1) k) (place_near q t (i + 1) k)

start_near : (w : Bool) (n : ℕ) → cond w 2 1 + (n - cond w 2 1) ≤ n + 2
start_near true n = omega arith
start_near false n = omega arith

ending_near : (t : List ℕ) → (ending t).place ≤ length t + 2
unfolding ending contents_start
ending_near t =
    let start : ℕ = cond (starts_wide t) 2 1 in
    omega (arith, place_near (quote_of t) t start (length t - start), start_near (starts_wide t) (length t))

directive_near : (t : List ℕ) (offset : ℕ) (c : LexCause) → directive_spelling t ≡ Some (refused offset c) → offset ≤ length t + 2
unfolding directive_spelling
directive_near t offset c e = by (is_marker_line (take (line_run t) t)) (nat_le (length t) (line_run t + 1)) e where
  by : (a b : Bool) → cond a (cond b (Some marker) None) (Some (refused 0 cause.Directive)) ≡ Some (refused offset c) → offset ≤ length t + 2
  by true true h = absurd cc
  by true false h = absurd cc
  by false b h = let zero_is : 0 ≡ offset = cc in omega (arith, zero_is)

near_by : (d : Dialect) (t : List ℕ) (offset : ℕ) (c : LexCause) (l m o : Bool) → cond l (literal_spelling t) (cond m (comment_spelling t) (cond o (directive_spelling t) (plain_spelling d t))) ≡ Some (refused offset c) → offset ≤ length t + 2
near_by d t offset c true m o e =
    each_some (Near (length t + 2)) tt (λ sort. tt) (λ x. omega arith) (literal_spelling t) (refused offset c) e (literal_each (Near (length t + 2)) tt (λ sort. tt) (λ x. omega arith) t (ending_near t))
near_by d t offset c false true o e =
    each_some (Near (length t + 2)) tt (λ sort. tt) (λ x. omega arith) (comment_spelling t) (refused offset c) e (comment_each (Near (length t + 2)) tt (λ sort. tt) (λ x. omega arith) t)
near_by d t offset c false false true e = directive_near t offset c e
near_by d t offset c false false false e =
    each_some (Near (length t + 2)) tt (λ sort. tt) (λ x. omega arith) (plain_spelling d t) (refused offset c) e (plain_each (Near (length t + 2)) tt (λ sort. tt) (λ x. omega arith) d t)

near_meant : (d : Dialect) (t : List ℕ) (offset : ℕ) (c : LexCause) (o : Option Spelling) → spelling_of d t ≡ o → unwrap_or o (refused 0 cause.StrayByte) ≡ refused offset c → offset ≤ length t + 2
unfolding spelling_of
near_meant d t offset c None e h = let zero_is : 0 ≡ offset = cc in omega (arith, zero_is)
near_meant d t offset c (Some s) e h = near_by d t offset c (starts_literal t) (starts_comment t) (starts_directive d t) (e ∙ ap Some h)

pub refused-near : (d : Dialect) (t : List ℕ) (offset : ℕ) (c : LexCause) → meaning d t ≡ refused offset c → offset ≤ length t + 2
unfolding meaning
refused-near d t offset c h = near_meant d t offset c (spelling_of d t) refl h

-- What was read is the longest spelling.
use Rattle.std.proofs.Common.{◌≡◌, refl, sym, ap, subst, ◌∙◌, ℕ, suc, ◌+◌, ◌-◌, ◌<◌, ◌≤◌, Bool, true, false, not, cond, ◌&&◌, ◌||◌, List, [], ◌∷◌, ◌++◌, length, take, drop, map, get_or, Option, Some, None, option_map, unwrap_or, nat_eq, arith}
use Rattle.std.specs.List.{starts_with}
use Rattle.std.proofs.lemmas.Bool.{eqb-true}
use Rattle.std.proofs.lemmas.Grind.{common_steps}
use Rattle.std.proofs.lemmas.Bool.Decides.{nat_tests}
use Rattle.std.proofs.lemmas.List.Sums.{prefix_len-le-length}
use Rattle.c_tokens.specs.declared.lexical.Dialect.{Dialect}
use Rattle.c_tokens.specs.declared.lexical.Dialect.TheVariants.{C90, C95}
use Rattle.c_tokens.specs.declared.lexical.LexCause.{LexCause}
use Rattle.c_tokens.specs.declared.lexical.LexCause.TheVariants as cause
use Rattle.c_tokens.specs.Bytes.{is_digit, is_letter, is_word_byte, is_white_space, is_quote, is_backslash, is_no_line_feed}
use Rattle.c_tokens.specs.Literals.{starts_with_quote, starts_wide, starts_literal, contents_start, is_escaped, quote_of, spoiled, closing, first_met, ending}
use Rattle.c_tokens.specs.Skipped.{starts_with_byte, starts_comment, through_close, starts_directive, line_run, is_marker_line}
use Rattle.c_tokens.specs.Spelling.{Table, find_text, punctuators, other_punctuators, sign_marks, word_marks, Spelling, space, marker, refused, closed_spelling, spoiled_spelling, word_spelling, number_spelling, mark_or_refused, stray_spelling, sign_spelling, spelling_of}
use Rattle.c_tokens.specs.Tokens.{meaning}
use Rattle.c_tokens.specs.Runs.{opens, OpensLine, word_run, number_run, starts_with_letter, starts_white, starts_number, starts_after_at, starts_after_backquote, starts_sign, first_prefix}
use Rattle.c_tokens.proofs.Longest.{IsLongest, longest-is}
use Rattle.c_tokens.proofs.Tables.{and_true}
use Rattle.c_tokens.proofs.Reaches.{spelled-word, word-longest, spelled-number, number-longest, spelled-after_at, after_at-longest, spelled-after_backquote, after_backquote-longest, spelled-space, space-longest}
use Rattle.c_tokens.proofs.Opened.{whole-longest, open-comment, spelled-comment, comment-longest, spelled-marker, marker-longest, other-directive, ClosesLiteral, spelled-literal, literal-longest, spoiled-literal, contents-start, quote-is, escaped-next, closes-at}
use Rattle.c_tokens.proofs.Signs.{HasAllSigns, spelled-sign, sign-longest, spelled-stray, stray-longest}
use Rattle.c_lexer.specs.declared.piece.Piece.{Piece}
use Rattle.c_lexer.specs.declared.piece.Meaning.{Meaning}
use Rattle.c_lexer.specs.declared.piece.Meaning.TheVariants as m
use Rattle.c_lexer.specs.Meanings.{spelling_by}
use Rattle.c_lexer.specs.Pieces.{Describes}
use Rattle.c_lexer.specs.Shown.{sign_table, other_sign_table, signs_in}

meaning_is : (d : Dialect) (text : List ℕ) (s : Spelling) → spelling_of d text ≡ Some s → meaning d text ≡ s
unfolding meaning
meaning_is d text s e = ap (λ o. unwrap_or o (refused 0 cause.StrayByte)) e

pub found : (d : Dialect) (text : List ℕ) (n : ℕ) (s : Spelling) → IsLongest d text n → spelling_of d (take n text) ≡ Some s → (piece : Piece) → piece.length ≡ n → spelling_by piece.meaning ≡ s → Describes d text piece
found d text n s l e piece same says = record {
  some = let some = l.some in omega (arith, same);
  length = same ∙ sym (longest-is d text n l);
  meaning = says ∙ sym (ap (λ k. meaning d (take k text)) same ∙ meaning_is d (take n text) s e);
}

take_whole : (text : List ℕ) → take (length text) text ≡ text
take_whole text = grind (arith, common_steps)

-- a text that is all of one spelling
pub whole_found : (d : Dialect) (text : List ℕ) (s : Spelling) → 0 < length text → spelling_of d text ≡ Some s → (piece : Piece) → piece.length ≡ length text → spelling_by piece.meaning ≡ s → Describes d text piece
whole_found d text s some e piece same says = found d text (length text) s (whole-longest d text s some e) (ap (spelling_of d) (take_whole text) ∙ e) piece same says

letter_run : (b : ℕ) (r : List ℕ) → is_letter b ≡ true → word_run (b ∷ r) ≡ suc (word_run r)
unfolding is_word_byte
letter_run b r e = ap (λ c. cond (c || is_digit b) (1 + word_run r) 0) e ∙ omega arith

pub word_found : (d : Dialect) (text : List ℕ) (piece : Piece) → starts_with_letter text ≡ true → opens d text ≡ false → piece.length ≡ word_run text → spelling_by piece.meaning ≡ word_spelling (take piece.length text) → Describes d text piece
unfolding starts_with_letter
word_found d [] piece e w same says = absurd cc
word_found d (b ∷ r) piece e w same says =
    let n = same ∙ letter_run b r e in
    found d (b ∷ r) (suc (word_run r)) (word_spelling (b ∷ take (word_run r) r)) (word-longest d b r w e) (spelled-word d b r w e) piece n (says ∙ ap (λ k. word_spelling (take k (b ∷ r))) n)

nothing_starts : starts_number [] ≡ true → ⊥
unfolding starts_number
nothing_starts e = cc

pub number_found : (d : Dialect) (text : List ℕ) (piece : Piece) → starts_number text ≡ true → opens d text ≡ false → piece.length ≡ 1 + number_run (get_or text 0 0) (drop 1 text) → spelling_by piece.meaning ≡ number_spelling (take piece.length text) → Describes d text piece
number_found d [] piece e o same says = absurd (nothing_starts e)
number_found d (b ∷ r) piece e o same says =
    let n : piece.length ≡ suc (number_run b r) = same ∙ omega arith in
    found d (b ∷ r) (suc (number_run b r)) (number_spelling (b ∷ take (number_run b r) r)) (number-longest d b r o e) (spelled-number d b r o e) piece n (says ∙ ap (λ k. number_spelling (take k (b ∷ r))) n)

-- a byte that is tested for, and what holds after it
tested : (P : ℕ → Type 0) (b c : ℕ) (rest : Bool) → (nat_eq b c && rest) ≡ true → (rest ≡ true → P c) → P b
tested P b c rest e h = let both = and_true (nat_eq b c) rest e in subst P (sym (eqb-true b c both.0)) (h both.1)

AfterAt : Dialect → Piece → List ℕ → ℕ → Type 0
AfterAt d piece r b = piece.length ≡ 1 + word_run r → spelling_by piece.meaning ≡ mark_or_refused (find_text (take piece.length (b ∷ r)) word_marks) → Describes d (b ∷ r) piece

at_found : (d : Dialect) (r : List ℕ) (piece : Piece) → starts_with_letter r ≡ true → AfterAt d piece r 64
unfolding AfterAt starts_with_letter
at_found d [] piece e same says = absurd cc
at_found d (b ∷ r) piece e same says =
    let n : piece.length ≡ suc (suc (word_run r)) = same ∙ ap (λ k. 1 + k) (letter_run b r e) ∙ omega arith in
    found d (64 ∷ b ∷ r) (suc (suc (word_run r))) (mark_or_refused (find_text (64 ∷ b ∷ take (word_run r) r) word_marks)) (after_at-longest d b r e) (spelled-after_at d b r e) piece n
    (says ∙ ap (λ k. mark_or_refused (find_text (take k (64 ∷ b ∷ r)) word_marks)) n)

pub after_at_found : (d : Dialect) (text : List ℕ) (piece : Piece) → starts_after_at text ≡ true → piece.length ≡ 1 + word_run (drop 1 text) → spelling_by piece.meaning ≡ mark_or_refused (find_text (take piece.length text) word_marks) → Describes d text piece
unfolding starts_after_at AfterAt
after_at_found d [] piece e same says = absurd cc
after_at_found d (b ∷ r) piece e same says = tested (AfterAt d piece r) b 64 (starts_with_letter r) e (λ h. at_found d r piece h) same says

AfterBackquote : Dialect → Piece → List ℕ → ℕ → ℕ → Type 0
AfterBackquote d piece r b c = piece.length ≡ 2 + word_run r → spelling_by piece.meaning ≡ mark_or_refused (find_text (take piece.length (b ∷ c ∷ r)) word_marks) → Describes d (b ∷ c ∷ r) piece

backquote_found : (d : Dialect) (r : List ℕ) (piece : Piece) → starts_with_letter r ≡ true → AfterBackquote d piece r 96 64
unfolding AfterBackquote starts_with_letter
backquote_found d [] piece e same says = absurd cc
backquote_found d (b ∷ r) piece e same says =
    let n : piece.length ≡ suc (suc (suc (word_run r))) = same ∙ ap (λ k. 2 + k) (letter_run b r e) ∙ omega arith in
    found d (96 ∷ 64 ∷ b ∷ r) (suc (suc (suc (word_run r)))) (mark_or_refused (find_text (96 ∷ 64 ∷ b ∷ take (word_run r) r) word_marks)) (after_backquote-longest d b r e) (spelled-after_backquote d b r e) piece n
    (says ∙ ap (λ k. mark_or_refused (find_text (take k (96 ∷ 64 ∷ b ∷ r)) word_marks)) n)

pub after_backquote_found : (d : Dialect) (text : List ℕ) (piece : Piece) → starts_after_backquote text ≡ true → piece.length ≡ 2 + word_run (drop 2 text) → spelling_by piece.meaning ≡ mark_or_refused (find_text (take piece.length text) word_marks) → Describes d text piece
unfolding starts_after_backquote starts_after_at AfterBackquote
after_backquote_found d [] piece e same says = absurd cc
after_backquote_found d (b ∷ []) piece e same says = absurd (let h = (and_true (nat_eq b 96) false e).1 in cc)
after_backquote_found d (b ∷ c ∷ r) piece e same says =
    tested (λ x. AfterBackquote d piece r x c) b 96 (nat_eq c 64 && starts_with_letter r) e
    (λ h. tested (AfterBackquote d piece r 96) c 64 (starts_with_letter r) h (λ i. backquote_found d r piece i)) same says

pub space_found : (d : Dialect) (text : List ℕ) → starts_white text ≡ true → opens d text ≡ false → Describes d text (record { length = 1; meaning = m.Space })
unfolding starts_white
space_found d [] e o = absurd cc
space_found d (b ∷ r) e o = found d (b ∷ r) 1 space (space-longest d b r o e) (spelled-space d b r o e) (record { length = 1; meaning = m.Space }) refl refl

-- comments

comment_pair : (P : List ℕ → Type 0) (text : List ℕ) → starts_comment text ≡ true → ((r : List ℕ) → P (47 ∷ 42 ∷ r)) → P text
unfolding starts_comment starts_with_byte
comment_pair P [] e h = absurd cc
comment_pair P (b ∷ []) e h = absurd (let f = (and_true (nat_eq b 47) false e).1 in cc)
comment_pair P (b ∷ c ∷ r) e h =
    tested (λ x. P (x ∷ c ∷ r)) b 47 (nat_eq c 42) e (λ f. subst (λ x. P (47 ∷ x ∷ r)) (sym (eqb-true c 42 f)) (h r))

pub comment_found : (d : Dialect) (text : List ℕ) (n : ℕ) → starts_comment text ≡ true → through_close (drop 2 text) ≡ Some n → Describes d text (record { length = 2 + n; meaning = m.Space })
comment_found d text n e =
    comment_pair (λ t. through_close (drop 2 t) ≡ Some n → Describes d t (record { length = 2 + n; meaning = m.Space })) text e
    (λ r f. found d (47 ∷ 42 ∷ r) (suc (suc n)) space (comment-longest d r n f) (spelled-comment d r n f) (record { length = 2 + n; meaning = m.Space }) (omega arith) refl)

pub comment_open : (d : Dialect) (text : List ℕ) → starts_comment text ≡ true → through_close (drop 2 text) ≡ None → Describes d text (record { length = length text; meaning = m.Refused 0 cause.OpenComment })
comment_open d text e =
    comment_pair (λ t. through_close (drop 2 t) ≡ None → Describes d t (record { length = length t; meaning = m.Refused 0 cause.OpenComment })) text e
    (λ r f. whole_found d (47 ∷ 42 ∷ r) (refused 0 cause.OpenComment) (omega arith) (open-comment d r f) (record { length = length (47 ∷ 42 ∷ r); meaning = m.Refused 0 cause.OpenComment }) refl refl)

-- directives

pub marker_found : (d : Dialect) (text : List ℕ) (n : ℕ) → OpensLine d text → is_marker_line (take (line_run text) text) ≡ true → line_run text ≤ n → n ≤ length text → n ≤ line_run text + 1 → ((m : ℕ) → n < m → m ≤ length text → line_run text + 1 < m) → Describes d text (record { length = n; meaning = m.Marker })
marker_found d text n o e from within to all =
    found d text n marker (marker-longest d text n o e from within to all) (spelled-marker d text n o e from within to) (record { length = n; meaning = m.Marker }) refl refl

pub directive_found : (d : Dialect) (text : List ℕ) → 0 < length text → OpensLine d text → is_marker_line (take (line_run text) text) ≡ false → Describes d text (record { length = length text; meaning = m.Refused 0 cause.Directive })
directive_found d text some o e =
    whole_found d text (refused 0 cause.Directive) some (other-directive d text o e) (record { length = length text; meaning = m.Refused 0 cause.Directive }) refl refl

-- literals

pub literal_found : (d : Dialect) (text : List ℕ) (e : ℕ) (meaning : Meaning) → ClosesLiteral text e → spelling_by meaning ≡ closed_spelling (quote_of text) (nat_eq e (contents_start text)) → Describes d text (record { length = e + 1; meaning = meaning })
literal_found d text e meaning c says =
    found d text (e + 1) (closed_spelling (quote_of text) (nat_eq e (contents_start text))) (literal-longest d text e c) (spelled-literal d text e c) (record { length = e + 1; meaning = meaning }) refl says

pub literal_spoiled : (d : Dialect) (text : List ℕ) (place : ℕ) (c : LexCause) (meaning : Meaning) → 0 < length text → starts_literal text ≡ true → ending text ≡ record { place = place; found = spoiled c } → spelling_by meaning ≡ spoiled_spelling place c → Describes d text (record { length = length text; meaning = meaning })
literal_spoiled d text place c meaning some l e says = whole_found d text (spoiled_spelling place c) some (spoiled-literal d text place c l e) (record { length = length text; meaning = meaning }) refl says

-- signs

abbrev spelled_table : Table Meaning → Table Spelling
spelled_table table = map (λ entry. (entry.0, spelling_by entry.1)) table

abbrev signs : Dialect → Table Spelling
signs d = spelled_table (signs_in d)

all_signs : (d : Dialect) → HasAllSigns d (signs d)
unfolding sign_spelling find_text punctuators other_punctuators sign_marks
all_signs C90 = record { sorted = refl; sound = refl; has_punctuators = refl; has_marks = refl; has_others = refl }
all_signs C95 = record { sorted = refl; sound = refl; has_punctuators = refl; has_marks = refl; has_others = refl }

prefix_here : {A B : Type 0} (f : A → B) (b : Bool) (entry : List ℕ × A) (o : Option (List ℕ × B)) (o' : Option (List ℕ × A)) → o ≡ option_map (λ e. (e.0, f e.1)) o' → cond b (Some (entry.0, f entry.1)) o ≡ option_map (λ e. (e.0, f e.1)) (cond b (Some entry) o')
prefix_here f true entry o o' e = refl
prefix_here f false entry o o' e = e

prefix_by : {A B : Type 0} (f : A → B) (text : List ℕ) (table : Table A) → first_prefix text (map (λ e. (e.0, f e.1)) table) ≡ option_map (λ e. (e.0, f e.1)) (first_prefix text table)
unfolding first_prefix
prefix_by f text [] = refl
prefix_by f text (entry ∷ others) =
    prefix_here f (starts_with nat_eq text entry.0) entry (first_prefix text (map (λ e. (e.0, f e.1)) others)) (first_prefix text others) (prefix_by f text others)

no_sign_starts : starts_sign [] ≡ true → ⊥
unfolding starts_sign
no_sign_starts e = cc

abbrev pub measured : Option (List ℕ × Meaning) → Option (ℕ × Meaning)
measured o = option_map (λ entry. (length entry.0, entry.1)) o

abbrev measure_of : Piece → ℕ × Meaning
measure_of piece = (piece.length, piece.meaning)

some_is : (x y : ℕ × Meaning) → Some x ≡ Some y → x ≡ y
some_is x y e = cc

pub sign_found : (d : Dialect) (text : List ℕ) (piece : Piece) (o : Option (List ℕ × Meaning)) → first_prefix text (signs_in d) ≡ o → opens d text ≡ false → starts_sign text ≡ true → Some (measure_of piece) ≡ measured o → Describes d text piece
sign_found d [] piece o e p s h = absurd (no_sign_starts s)
sign_found d (b ∷ r) piece None e p s h = absurd cc
sign_found d (b ∷ r) piece (Some entry) e p s h =
    let found_at : first_prefix (b ∷ r) (signs d) ≡ Some (entry.0, spelling_by entry.1) = prefix_by spelling_by (b ∷ r) (signs_in d) ∙ ap (option_map (λ e. (e.0, spelling_by e.1))) e in
    let same = some_is (measure_of piece) (length entry.0, entry.1) h in
    found d (b ∷ r) (length entry.0) (spelling_by entry.1) (sign-longest d (signs d) (all_signs d) b r (entry.0, spelling_by entry.1) p s found_at) (spelled-sign d (signs d) (all_signs d) b r (entry.0, spelling_by entry.1) p s found_at) piece
    (ap (λ p. p.0) same) (ap (λ p. spelling_by p.1) same)

pub stray_found : (d : Dialect) (text : List ℕ) (meaning : Meaning) (o : Option (List ℕ × Meaning)) → first_prefix text (signs_in d) ≡ o → opens d text ≡ false → starts_sign text ≡ true → None ≡ measured o → Some (spelling_by meaning) ≡ stray_spelling (get_or text 0 0 ∷ []) → Describes d text (record { length = 1; meaning = meaning })
stray_found d [] meaning o e p s h says = absurd (no_sign_starts s)
stray_found d (b ∷ r) meaning (Some entry) e p s h says = absurd cc
stray_found d (b ∷ r) meaning None e p s h says =
    let missing : first_prefix (b ∷ r) (signs d) ≡ None = prefix_by spelling_by (b ∷ r) (signs_in d) ∙ ap (option_map (λ e. (e.0, spelling_by e.1))) e in
    found d (b ∷ r) 1 (spelling_by meaning) (stray-longest d (signs d) (all_signs d) b r p s missing) (spelled-stray d (signs d) (all_signs d) b r p s missing ∙ sym says) (record { length = 1; meaning = meaning }) refl refl

-- one table before another
first_of_two : {A : Type 0} (b : Bool) (entry : List ℕ × A) (o rest : Option (List ℕ × A)) (x : List ℕ × A) → cond b (Some entry) rest ≡ Some x → (rest ≡ Some x → o ≡ Some x) → cond b (Some entry) o ≡ Some x
first_of_two true entry o rest x e h = e
first_of_two false entry o rest x e h = h e

pub first_in_append : {A : Type 0} (text : List ℕ) (xs ys : Table A) (x : List ℕ × A) → first_prefix text xs ≡ Some x → first_prefix text (xs ++ ys) ≡ Some x
unfolding first_prefix
first_in_append text [] ys x e = absurd cc
first_in_append text (entry ∷ xs) ys x e = first_of_two (starts_with nat_eq text entry.0) entry (first_prefix text (xs ++ ys)) (first_prefix text xs) x e (first_in_append text xs ys x)

none_of_two : {A : Type 0} (b : Bool) (entry : List ℕ × A) (o rest second : Option (List ℕ × A)) → cond b (Some entry) rest ≡ None → (rest ≡ None → o ≡ second) → cond b (Some entry) o ≡ second
none_of_two true entry o rest second e h = absurd cc
none_of_two false entry o rest second e h = h e

pub none_in_append : {A : Type 0} (text : List ℕ) (xs ys : Table A) → first_prefix text xs ≡ None → first_prefix text (xs ++ ys) ≡ first_prefix text ys
unfolding first_prefix
none_in_append text [] ys e = refl
none_in_append text (entry ∷ xs) ys e = none_of_two (starts_with nat_eq text entry.0) entry (first_prefix text (xs ++ ys)) (first_prefix text xs) (first_prefix text ys) e (none_in_append text xs ys)

all_fail : (a b c d e : Bool) → a ≡ false → b ≡ false → c ≡ false → d ≡ false → e ≡ false → (not a && not b && not c && not d && not e) ≡ true
all_fail a b c d e ha hb hc hd he =
    ap (λ p. not p && not b && not c && not d && not e) ha ∙ ap (λ p. not p && not c && not d && not e) hb ∙ ap (λ p. not p && not d && not e) hc ∙ ap (λ p. not p && not e) hd ∙ ap not he

-- what is left after the other tests
pub sign_left : (text : List ℕ) → 0 < length text → is_letter (get_or text 0 0) ≡ false → is_white_space (get_or text 0 0) ≡ false → starts_number text ≡ false → starts_after_at text ≡ false → starts_after_backquote text ≡ false → starts_sign text ≡ true
unfolding starts_sign
sign_left [] some a b c d e = absurd (omega arith)
sign_left (x ∷ r) some a b c d e = all_fail (is_letter x) (is_white_space x) (starts_number (x ∷ r)) (starts_after_at (x ∷ r)) (starts_after_backquote (x ∷ r)) a b c d e

pub letter_starts : (text : List ℕ) → 0 < length text → is_letter (get_or text 0 0) ≡ true → starts_with_letter text ≡ true
unfolding starts_with_letter
letter_starts [] some e = absurd (omega arith)
letter_starts (b ∷ r) some e = e

pub white_starts : (text : List ℕ) → 0 < length text → is_white_space (get_or text 0 0) ≡ true → starts_white text ≡ true
unfolding starts_white
white_starts [] some e = absurd (omega arith)
white_starts (b ∷ r) some e = e

pub some_in_number : (text : List ℕ) → starts_number text ≡ true → 0 < length text
some_in_number [] e = absurd (nothing_starts e)
some_in_number (b ∷ r) e = omega arith

pub some_after_at : (text : List ℕ) → starts_after_at text ≡ true → 1 ≤ length text
unfolding starts_after_at
some_after_at [] e = absurd cc
some_after_at (b ∷ r) e = omega arith

pub some_after_backquote : (text : List ℕ) → starts_after_backquote text ≡ true → 2 ≤ length text
unfolding starts_after_backquote starts_after_at
some_after_backquote [] e = absurd cc
some_after_backquote (b ∷ []) e = absurd (let h = (and_true (nat_eq b 96) false e).1 in cc)
some_after_backquote (b ∷ c ∷ r) e = omega arith

pub some_in_sign : (text : List ℕ) → starts_sign text ≡ true → 0 < length text
some_in_sign [] e = absurd (no_sign_starts e)
some_in_sign (b ∷ r) e = omega arith

pub comment_some : (text : List ℕ) → starts_comment text ≡ true → 2 ≤ length text
comment_some text e = comment_pair (λ t. 2 ≤ length t) text e (λ r. omega arith)

pub line_run_le : (text : List ℕ) → line_run text ≤ length text
unfolding line_run
line_run_le text = prefix_len-le-length is_no_line_feed text

pub opens_nothing : (d : Dialect) (text : List ℕ) → starts_literal text ≡ false → starts_comment text ≡ false → starts_directive d text ≡ false → opens d text ≡ false
unfolding opens
opens_nothing d text l c o = ap (λ b. b || starts_comment text || starts_directive d text) l ∙ ap (λ b. b || starts_directive d text) c ∙ o

-- literals, as the program reads them

wide_within : (b : ℕ) (r : List ℕ) (w : Bool) → starts_wide (b ∷ r) ≡ w → cond w 2 1 ≤ length (b ∷ r)
unfolding starts_wide starts_with_quote
wide_within b [] true e = absurd (let f = (and_true (nat_eq b 76) false e).1 in cc)
wide_within b (x ∷ r) true e = omega arith
wide_within b r false e = omega arith

no_literal_empty : starts_literal [] ≡ true → ⊥
unfolding starts_literal starts_with_quote starts_wide
no_literal_empty e = cc

pub contents_within : (text : List ℕ) → starts_literal text ≡ true → contents_start text ≤ length text
unfolding contents_start
contents_within [] e = absurd (no_literal_empty e)
contents_within (b ∷ r) e = wide_within b r (starts_wide (b ∷ r)) refl

quote_no_backslash : (q : ℕ) → is_quote q ≡ true → is_backslash q ≡ false
unfolding is_quote is_backslash
quote_no_backslash q h = grind (arith, nat_tests)

pub contents_free : (text : List ℕ) → starts_literal text ≡ true → is_escaped text (contents_start text) ≡ false
unfolding quote_of
contents_free text e =
    let some = contents-start text in
    let within = contents_within text e in
    let at : contents_start text ≡ contents_start text - 1 + 1 = omega (arith, some) in
    ap (is_escaped text) at ∙ escaped-next text (contents_start text - 1) (omega (arith, some, within))
    ∙ ap (λ b. b && not (is_escaped text (contents_start text - 1))) (quote_no_backslash (get_or text (contents_start text - 1) 0) (quote-is text e))

pub ends_by : (text : List ℕ) (start : ℕ) → start ≡ contents_start text → ending text ≡ first_met (get_or text (start - 1) 0) text start (length text - start)
unfolding ending quote_of
ends_by text start e = sym (ap (λ s. first_met (get_or text (s - 1) 0) text s (length text - s)) e)

pub closed_here : (text : List ℕ) (place : ℕ) → starts_literal text ≡ true → ending text ≡ record { place = place; found = closing } → ClosesLiteral text place
unfolding ending
closed_here text place l e = record {
  literal = l;
  within = let c = closes-at (quote_of text) text (contents_start text) (length text - contents_start text) place e in let to = c.to in omega (arith, to, contents_within text l);
  ends = e;
}

pub decided : (text : List ℕ) (place : ℕ) → closed_spelling (get_or text (contents_start text - 1) 0) (nat_eq place (contents_start text)) ≡ closed_spelling (quote_of text) (nat_eq place (contents_start text))
unfolding quote_of
decided text place = refl

-- the signs of C95

others_first : (text : List ℕ) (o : Option (List ℕ × Meaning)) (x : ℕ × Meaning) → first_prefix text other_sign_table ≡ o → Some x ≡ measured o → Some x ≡ measured (first_prefix text (signs_in C95))
others_first text None x e h = absurd cc
others_first text (Some entry) x e h = h ∙ sym (ap measured (first_in_append text other_sign_table sign_table entry e))

pub others_found : (text : List ℕ) (x : ℕ × Meaning) → Some x ≡ measured (first_prefix text other_sign_table) → Some x ≡ measured (first_prefix text (signs_in C95))
others_found text x h = others_first text (first_prefix text other_sign_table) x refl h

others_none : (text : List ℕ) (o : Option (List ℕ × Meaning)) → first_prefix text other_sign_table ≡ o → None ≡ measured o → measured (first_prefix text sign_table) ≡ measured (first_prefix text (signs_in C95))
others_none text None e h = sym (ap measured (none_in_append text other_sign_table sign_table e))
others_none text (Some entry) e h = absurd cc

pub others_missing : (text : List ℕ) → None ≡ measured (first_prefix text other_sign_table) → measured (first_prefix text sign_table) ≡ measured (first_prefix text (signs_in C95))
others_missing text h = others_none text (first_prefix text other_sign_table) refl h

-- A text without the other spellings of punctuators has the same tokens in both dialects.
use Rattle.std.proofs.Common.{◌≡◌, refl, sym, ap, ◌∙◌, ℕ, zero, suc, ◌+◌, ◌-◌, Bool, true, false, cond, not, ◌&&◌, ◌||◌, List, [], ◌∷◌, length, take, Some, None, is_some, unwrap_or, nat_eq}
use Rattle.c_tokens.specs.declared.lexical.Dialect.TheVariants.{C90, C95}
use Rattle.c_tokens.specs.declared.lexical.LexCause.TheVariants as cause
use Rattle.c_tokens.specs.Literals.{starts_literal}
use Rattle.c_tokens.specs.Skipped.{starts_with_byte, starts_comment, starts_percent_colon, starts_directive}
use Rattle.c_tokens.specs.Spelling.{find_text, punctuators, other_punctuators, sign_marks, is_word, is_marked_word, is_number, is_space, space, refused, punctuator, mark, token_or, word_marks, word_spelling, mark_or_refused, number_spelling, literal_spelling, comment_spelling, directive_spelling, stray_spelling, sign_spelling, plain_spelling, spelling_of}
use Rattle.c_tokens.specs.Runs.{starts_other, has_no_other}
use Rattle.c_tokens.specs.Tokens.{longest, longest_up_to, meaning, unless_refused, pieces_from, pieces, adds, tokens_in, tokens_of}
use Rattle.c_tokens.proofs.Tables.{and_true, and_false, not_true, or_false, find-none}
use Rattle.c_tokens.proofs.Steps.{piece, adds_past}

no_pair : (b c : ℕ) (r : List ℕ) (k : ℕ) → (nat_eq b c && starts_with_byte k r) ≡ false → (nat_eq b c && starts_with_byte k []) ≡ false
unfolding starts_with_byte
no_pair b c r k e = and_false (nat_eq b c) false refl

one_byte : (b : ℕ) → starts_other (b ∷ []) ≡ false
unfolding starts_other starts_with_byte
one_byte b = by (nat_eq b 60) (nat_eq b 58) (nat_eq b 37) where
  by : (x y z : Bool) → ((x && (false || false)) || (y && false) || (z && (false || false))) ≡ false
  by true true true = refl
  by true true false = refl
  by true false true = refl
  by true false false = refl
  by false true true = refl
  by false true false = refl
  by false false true = refl
  by false false false = refl

-- a beginning of a text that begins none of them
none_begins : (t : List ℕ) (k : ℕ) → starts_other t ≡ false → starts_other (take k t) ≡ false
unfolding starts_other starts_with_byte
none_begins t zero e = refl
none_begins [] (suc k) e = refl
none_begins (b ∷ t) (suc zero) e = one_byte b
none_begins (b ∷ []) (suc (suc k)) e = one_byte b
none_begins (b ∷ x ∷ t) (suc (suc k)) e = e

no_percent : (t : List ℕ) → starts_other t ≡ false → starts_percent_colon t ≡ false
unfolding starts_other starts_percent_colon
no_percent [] e = refl
no_percent (b ∷ t) e =
    let h = or_false ((nat_eq b 60 && (starts_with_byte 58 t || starts_with_byte 37 t)) || (nat_eq b 58 && starts_with_byte 62 t)) (nat_eq b 37 && (starts_with_byte 62 t || starts_with_byte 58 t)) e in
    by (nat_eq b 37) (starts_with_byte 62 t) (starts_with_byte 58 t) h.1 where
      by : (p x y : Bool) → (p && (x || y)) ≡ false → (p && y) ≡ false
      by true true y h = absurd cc
      by true false y h = h
      by false x y h = refl

same_directive : (t : List ℕ) → starts_other t ≡ false → starts_directive C90 t ≡ starts_directive C95 t
unfolding starts_directive
same_directive t e = ap (λ p. starts_with_byte 35 t || p) (sym (no_percent t e))

is_none : List ℕ → Bool
is_none t = not (starts_other t)

no_other : (t : List ℕ) → starts_other t ≡ false → find_text t other_punctuators ≡ None
unfolding is_none starts_other starts_with_byte other_punctuators
no_other t e = find-none is_none t other_punctuators (ap not e) refl

same_sign : (t : List ℕ) → starts_other t ≡ false → sign_spelling C90 t ≡ sign_spelling C95 t
unfolding sign_spelling find_text
same_sign t e = ap (λ o. token_or punctuator (find_text t punctuators) (token_or mark (find_text t sign_marks) (token_or punctuator o (stray_spelling t)))) (sym (no_other t e))

same_plain : (t : List ℕ) → starts_other t ≡ false → plain_spelling C90 t ≡ plain_spelling C95 t
unfolding plain_spelling
same_plain t e =
    ap (λ o. cond (is_word t) (Some (word_spelling t)) (cond (is_marked_word t) (Some (mark_or_refused (find_text t word_marks))) (cond (is_number t) (Some (number_spelling t)) (cond (is_space t) (Some space) o)))) (same_sign t e)

same_spelling : (t : List ℕ) → starts_other t ≡ false → spelling_of C90 t ≡ spelling_of C95 t
unfolding spelling_of
same_spelling t e =
    ap (λ b. cond (starts_literal t) (literal_spelling t) (cond (starts_comment t) (comment_spelling t) (cond b (directive_spelling t) (plain_spelling C90 t)))) (same_directive t e)
    ∙ ap (λ o. cond (starts_literal t) (literal_spelling t) (cond (starts_comment t) (comment_spelling t) (cond (starts_directive C95 t) (directive_spelling t) o))) (same_plain t e)

same_up_to : (n : ℕ) (t : List ℕ) → starts_other t ≡ false → longest_up_to C90 n t ≡ longest_up_to C95 n t
unfolding longest_up_to
same_up_to zero t e = refl
same_up_to (suc n) t e =
    ap (λ o. cond (is_some o) (suc n) (longest_up_to C90 n t)) (same_spelling (take (suc n) t) (none_begins t (suc n) e)) ∙ ap (cond (is_some (spelling_of C95 (take (suc n) t))) (suc n)) (same_up_to n t e)

same_longest : (t : List ℕ) → starts_other t ≡ false → longest C90 t ≡ longest C95 t
unfolding longest
same_longest t e = same_up_to (length t) t e

same_meaning : (t : List ℕ) → starts_other t ≡ false → meaning C90 t ≡ meaning C95 t
unfolding meaning
same_meaning t e = ap (λ o. unwrap_or o (refused 0 cause.StrayByte)) (same_spelling t e)

same_in : (names : List (List ℕ)) (bytes : List ℕ) (at k : ℕ) (t : List ℕ) → has_no_other t ≡ true → tokens_in C90 names bytes (pieces_from C90 at k t) ≡ tokens_in C95 names bytes (pieces_from C95 at k t)
unfolding tokens_in pieces_from has_no_other
same_in names bytes at zero [] h = refl
same_in names bytes at (suc k) [] h = refl
same_in names bytes at (suc k) (b ∷ t) h = same_in names bytes (at + 1) k t (and_true (not (starts_other (b ∷ t))) (has_no_other t) h).1
same_in names bytes at zero (b ∷ t) h =
    let both = and_true (not (starts_other (b ∷ t))) (has_no_other t) h in
    let none : starts_other (b ∷ t) ≡ false = not_true (starts_other (b ∷ t)) both.0 in
    let text = take (longest C95 (b ∷ t)) (b ∷ t) in
    ap (λ n. adds names bytes (piece at (take n (b ∷ t))) (meaning C90 (take n (b ∷ t))) (tokens_in C90 names bytes (unless_refused (meaning C90 (take n (b ∷ t))) (pieces_from C90 (at + 1) (length (take n (b ∷ t)) - 1) t)))) (same_longest (b ∷ t) none)
    ∙ adds_past C90 names bytes (piece at text) (meaning C90 text) (pieces_from C90 (at + 1) (length text - 1) t)
    ∙ ap (λ m. adds names bytes (piece at text) m (tokens_in C90 names bytes (pieces_from C90 (at + 1) (length text - 1) t))) (same_meaning text (none_begins (b ∷ t) (longest C95 (b ∷ t)) none))
    ∙ ap (adds names bytes (piece at text) (meaning C95 text)) (same_in names bytes (at + 1) (length text - 1) t both.1)
    ∙ sym (adds_past C95 names bytes (piece at text) (meaning C95 text) (pieces_from C95 (at + 1) (length text - 1) t))

pub same-tokens : (names : List (List ℕ)) (text : List ℕ) → has_no_other text ≡ true → tokens_of C90 names text ≡ tokens_of C95 names text
unfolding tokens_of pieces
same-tokens names text h = same_in names text 0 0 text h

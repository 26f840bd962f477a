-- The pieces of a text that begins with a whole spelling.
use Rattle.std.proofs.Common.{◌≡◌, ap, sym, ◌∙◌, ℕ, zero, suc, ◌+◌, ◌-◌, true, false, cond, List, [], ◌∷◌, ◌++◌, length, take, is_some, add-suc, add-zero, arith}
use Rattle.std.proofs.Math.Seq.{take-append-add, take-append_seam}
use Rattle.std.proofs.lemmas.List.{length-append}
use Rattle.c_tokens.specs.declared.lexical.Dialect.TheVariants.{C90}
use Rattle.c_tokens.specs.Literals.{starts_literal, starts_with_quote, starts_wide}
use Rattle.c_tokens.specs.Skipped.{starts_comment, starts_with_byte, starts_directive, starts_percent_colon}
use Rattle.c_tokens.specs.Spelling.{spelling_of, plain_spelling, stray_spelling, sign_spelling, find_text, punctuators, sign_marks, is_word, is_marked_word, is_number, is_space}
use Rattle.c_tokens.specs.Tokens.{longest, longest_up_to, meaning, pieces_from, Piece, unless_refused}
use Rattle.text_tokens.proofs.Longer.{NoLonger}

-- no spelling begins with a text and then what follows it
abbrev pub Stops : List ℕ → List ℕ → Type 0
Stops t [] = Unit {0}
Stops t (c ∷ r) = NoLonger t c

empty_is_none : is_some (spelling_of C90 []) ≡ true → ⊥
unfolding spelling_of plain_spelling starts_literal starts_with_quote starts_wide starts_comment starts_with_byte starts_directive starts_percent_colon stray_spelling sign_spelling find_text punctuators sign_marks is_word is_marked_word is_number is_space
empty_is_none h = absurd (cc)

up_to_itself : (t r : List ℕ) → is_some (spelling_of C90 t) ≡ true → longest_up_to C90 (length t) (t ++ r) ≡ length t
unfolding longest_up_to
up_to_itself [] r h = absurd (empty_is_none h)
up_to_itself (b ∷ t) r h =
    let whole : take (suc (length t)) (b ∷ (t ++ r)) ≡ b ∷ t = take-append_seam (b ∷ t) r
    in ap (λ u. cond (is_some (spelling_of C90 u)) (suc (length t)) (longest_up_to C90 (length t) (b ∷ (t ++ r)))) whole ∙ rw h

up_to_more : (t : List ℕ) (c : ℕ) (r : List ℕ) (k : ℕ) → is_some (spelling_of C90 t) ≡ true → NoLonger t c → longest_up_to C90 (length t + k) (t ++ c ∷ r) ≡ length t
unfolding longest_up_to
up_to_more t c r zero h stops = ap (λ n. longest_up_to C90 n (t ++ c ∷ r)) (add-zero (length t)) ∙ up_to_itself t (c ∷ r) h
up_to_more t c r (suc k) h stops =
    let longer : take (suc (length t + k)) (t ++ c ∷ r) ≡ t ++ c ∷ take k r = ap (λ n. take n (t ++ c ∷ r)) (sym (add-suc (length t) k)) ∙ take-append-add t (c ∷ r) (suc k)
    in let none : is_some (spelling_of C90 (take (suc (length t + k)) (t ++ c ∷ r))) ≡ false = ap (λ u. is_some (spelling_of C90 u)) longer ∙ stops (take k r)
    in ap (λ n. longest_up_to C90 n (t ++ c ∷ r)) (add-suc (length t) k) ∙ ap (λ b. cond b (suc (length t + k)) (longest_up_to C90 (length t + k) (t ++ c ∷ r))) none ∙ up_to_more t c r k h stops

longest_is : (t r : List ℕ) → is_some (spelling_of C90 t) ≡ true → Stops t r → longest C90 (t ++ r) ≡ length t
unfolding longest
longest_is t [] h stops = ap (λ n. longest_up_to C90 n (t ++ [])) (length-append t [] ∙ add-zero (length t)) ∙ up_to_itself t [] h
longest_is t (c ∷ r) h stops = ap (λ n. longest_up_to C90 n (t ++ c ∷ r)) (length-append t (c ∷ r)) ∙ up_to_more t c r (length (c ∷ r)) h stops

inside : (t r : List ℕ) (at : ℕ) → pieces_from C90 at (length t) (t ++ r) ≡ pieces_from C90 (at + length t) 0 r
unfolding pieces_from
inside [] r at = ap (λ n. pieces_from C90 n 0 r) (sym (add-zero at))
inside (b ∷ t) r at = inside t r (at + 1) ∙ ap (λ n. pieces_from C90 n 0 r) (omega arith)

first_piece : (b : ℕ) (t r : List ℕ) (at : ℕ) → longest C90 (b ∷ (t ++ r)) ≡ suc (length t)
    → pieces_from C90 at 0 (b ∷ (t ++ r)) ≡ record { start = at; text = b ∷ t } ∷ unless_refused (meaning C90 (b ∷ t)) (pieces_from C90 (at + suc (length t)) 0 r)
unfolding pieces_from
first_piece b t r at e =
    let whole : take (longest C90 (b ∷ (t ++ r))) (b ∷ (t ++ r)) ≡ b ∷ t = ap (λ n. take n (b ∷ (t ++ r))) e ∙ take-append_seam (b ∷ t) r in
    let P : List ℕ → List Piece = λ u. record { start = at; text = u } ∷ unless_refused (meaning C90 u) (pieces_from C90 (at + 1) (length u - 1) (t ++ r)) in
    let one : suc (length t) - 1 ≡ length t = omega arith in
    ap P whole ∙ ap (λ u. record { start = at; text = b ∷ t } ∷ unless_refused (meaning C90 (b ∷ t)) u)
    (ap (λ n. pieces_from C90 (at + 1) n (t ++ r)) one ∙ inside t r (at + 1) ∙ ap (λ n. pieces_from C90 n 0 r) (omega arith))

-- The pieces begin with the spelling, and go on after it.
pub pieces_after : (t r : List ℕ) (at : ℕ) → is_some (spelling_of C90 t) ≡ true → Stops t r
    → pieces_from C90 at 0 (t ++ r) ≡ record { start = at; text = t } ∷ unless_refused (meaning C90 t) (pieces_from C90 (at + length t) 0 r)
pieces_after [] r at h stops = absurd (empty_is_none h)
pieces_after (b ∷ t) r at h stops = first_piece b t r at (longest_is (b ∷ t) r h stops)

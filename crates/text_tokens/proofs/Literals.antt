-- Nothing goes on a literal: what follows its closing quote does not change where it ends.
use Rattle.std.proofs.Common.{◌≡◌, refl, sym, ap, subst, ◌∙◌, ℕ, zero, suc, ◌+◌, ◌-◌, ◌<◌, ◌≤◌, Bool, true, false, cond, not, ◌&&◌, List, [], ◌∷◌, ◌++◌, length, take, drop, reverse, get_or, nat_eq, is_some, length-append, arith}
use Rattle.std.specs.List.{prefix_len}
use Rattle.std.proofs.Math.Seq.{take-append_seam, take-length}
use Rattle.std.proofs.lemmas.Bool.{eqb-true}
use Rattle.std.proofs.lemmas.Bool.Decides.{nat_tests}
use Rattle.std.proofs.lemmas.Grind.{common_steps}
use Rattle.c_tokens.specs.declared.lexical.Dialect.TheVariants.{C90}
use Rattle.c_tokens.specs.declared.token.TheConstants.{MAX_LITERAL_BYTES}
use Rattle.c_tokens.specs.Bytes.{is_quote, is_backslash}
use Rattle.c_tokens.specs.Constants.{starts_with_hexadecimal}
use Rattle.c_tokens.specs.Literals.{starts_with_quote, starts_wide, starts_literal, contents_start, is_odd, is_escaped, starts_escape, is_bad_escape, Met, inside, closing, spoiled, met, Ending, unless_inside, first_met, quote_of, ending}
use Rattle.c_tokens.specs.Spelling.{spelling_of}
use Rattle.c_tokens.proofs.Tables.{and_true, not_true}
use Rattle.c_tokens.proofs.Opened.{met_by, met_is, Closes, closes-at, escaped-next, contents-start, quote-is, closing-byte, ends_closed, ClosesLiteral, literal-longest}
use Rattle.text_tokens.proofs.Sorts.{IsLiteralText}

-- ---- what is met at a byte is met there in a beginning that goes on after it

take_within : (t : List ℕ) (n m : ℕ) → n ≤ m → take n (take m t) ≡ take n t
take_within t zero m h = refl
take_within t (suc n) zero h = absurd (omega arith)
take_within [] (suc n) (suc m) h = refl
take_within (b ∷ t) (suc n) (suc m) h = ap (λ u. b ∷ u) (take_within t n m (omega arith))

get_take : (t : List ℕ) (i m : ℕ) → i < m → get_or (take m t) i 0 ≡ get_or t i 0
get_take t i m h = grind (arith, common_steps)

escaped_take : (t : List ℕ) (i m : ℕ) → i < m → is_escaped (take m t) i ≡ is_escaped t i
unfolding is_escaped
escaped_take t i m h = ap (λ u. is_odd (prefix_len is_backslash (reverse u))) (take_within t i m (omega arith))

escape_take : (t : List ℕ) (j m : ℕ) → j + 2 ≤ m → starts_escape (drop j (take m t)) ≡ starts_escape (drop j t)
unfolding starts_escape starts_with_hexadecimal
escape_take t zero zero h = absurd (omega arith)
escape_take t zero (suc zero) h = absurd (omega arith)
escape_take [] zero (suc (suc m)) h = refl
escape_take (b ∷ []) zero (suc (suc m)) h = refl
escape_take (b ∷ c ∷ t) zero (suc (suc m)) h = refl
escape_take t (suc j) zero h = absurd (omega arith)
escape_take [] (suc j) (suc m) h = refl
escape_take (b ∷ t) (suc j) (suc m) h = escape_take t j m (omega arith)

met_take : (q : ℕ) (t : List ℕ) (i m : ℕ) → i < m → is_bad_escape (take m t) i ≡ is_bad_escape t i → met q (take m t) i ≡ met q t i
met_take q t i m h bad =
    met_is q (take m t) i
    ∙ ap (λ a. met_by a (nat_eq (get_or (take m t) i 0) 10) (nat_eq i MAX_LITERAL_BYTES) (nat_eq (get_or (take m t) i 0) q && not (is_escaped (take m t) i))) bad
    ∙ ap (λ b. met_by (is_bad_escape t i) (nat_eq b 10) (nat_eq i MAX_LITERAL_BYTES) (nat_eq b q && not (is_escaped (take m t) i))) (get_take t i m h)
    ∙ ap (λ s. met_by (is_bad_escape t i) (nat_eq (get_or t i 0) 10) (nat_eq i MAX_LITERAL_BYTES) (nat_eq (get_or t i 0) q && not s)) (escaped_take t i m h)
    ∙ sym (met_is q t i)

-- whether an escape begins at a byte
begins_escape : List ℕ → ℕ → Bool
begins_escape t i = is_backslash (get_or t i 0) && not (is_escaped t i)

begins_take : (t : List ℕ) (i m : ℕ) → i < m → begins_escape (take m t) i ≡ begins_escape t i
unfolding begins_escape
begins_take t i m h = ap (λ b. is_backslash b && not (is_escaped (take m t) i)) (get_take t i m h) ∙ ap (λ s. is_backslash (get_or t i 0) && not s) (escaped_take t i m h)

bad_is : (t : List ℕ) (i : ℕ) → is_bad_escape t i ≡ (begins_escape t i && not (starts_escape (drop (i + 1) t)))
unfolding is_bad_escape begins_escape
bad_is t i = refl

bad_take_none : (t : List ℕ) (i m : ℕ) → i < m → begins_escape t i ≡ false → is_bad_escape (take m t) i ≡ is_bad_escape t i
bad_take_none t i m h e =
    bad_is (take m t) i ∙ ap (λ b. b && not (starts_escape (drop (i + 1) (take m t)))) (begins_take t i m h ∙ e) ∙ sym (bad_is t i ∙ ap (λ b. b && not (starts_escape (drop (i + 1) t))) e)

bad_take_all : (t : List ℕ) (i m : ℕ) → i + 3 ≤ m → is_bad_escape (take m t) i ≡ is_bad_escape t i
bad_take_all t i m h =
    bad_is (take m t) i ∙ ap (λ b. b && not (starts_escape (drop (i + 1) (take m t)))) (begins_take t i m (omega arith))
    ∙ ap (λ b. begins_escape t i && not b) (escape_take t (i + 1) m (omega arith)) ∙ sym (bad_is t i)

quote_no_backslash : (q : ℕ) → is_quote q ≡ true → is_backslash q ≡ false
unfolding is_quote is_backslash
quote_no_backslash q h = grind (arith, nat_tests)

no_escape_begins : (t : List ℕ) (i : ℕ) → is_backslash (get_or t i 0) ≡ false → begins_escape t i ≡ false
unfolding begins_escape
no_escape_begins t i e = ap (λ b. b && not (is_escaped t i)) e

closes_by : (a b c d : Bool) → met_by a b c d ≡ closing → d ≡ true
closes_by true b c d h = absurd cc
closes_by false true c d h = absurd cc
closes_by false false true d h = absurd cc
closes_by false false false true h = refl
closes_by false false false false h = absurd cc

closes : (q : ℕ) (t : List ℕ) (i : ℕ) → met q t i ≡ closing → (nat_eq (get_or t i 0) q ≡ true) × (not (is_escaped t i) ≡ true)
closes q t i h = and_true (nat_eq (get_or t i 0) q) (not (is_escaped t i)) (closes_by (is_bad_escape t i) (nat_eq (get_or t i 0) 10) (nat_eq i MAX_LITERAL_BYTES) (nat_eq (get_or t i 0) q && not (is_escaped t i)) (sym (met_is q t i) ∙ h))

later : (t : List ℕ) (i e : ℕ) → i < e → e < length t → is_escaped t e ≡ false → begins_escape t i ≡ true → i + 2 ≤ e
unfolding begins_escape
later t i e h within free begins = by (nat_eq (i + 1) e) refl where
  by : (b : Bool) → nat_eq (i + 1) e ≡ b → i + 2 ≤ e
  by true s = absurd (let x : is_escaped t e ≡ true = subst (λ j. is_escaped t j ≡ true) (eqb-true (i + 1) e s) (escaped-next t i (omega arith) ∙ begins) in cc)
  by false s = grind (arith, nat_tests)

-- ---- and so the whole text ends the literal where its beginning does

closing_grow : (q : ℕ) (t : List ℕ) (i m : ℕ) → is_quote q ≡ true → i < m → met q (take m t) i ≡ closing → met q t i ≡ closing
closing_grow q t i m quote h e =
    let byte : get_or t i 0 ≡ q = sym (get_take t i m h) ∙ closing-byte q (take m t) i e in
    sym (met_take q t i m h (bad_take_none t i m h (no_escape_begins t i (ap is_backslash byte ∙ quote_no_backslash q quote)))) ∙ e

inside_grow : (q : ℕ) (t : List ℕ) (i e m : ℕ) (b : Bool) → begins_escape t i ≡ b → i < e → e < m → m ≤ length t → is_escaped t e ≡ false → met q (take m t) i ≡ inside → met q t i ≡ inside
inside_grow q t i e m true s h past within free is = sym (met_take q t i m (omega arith) (bad_take_all t i m (omega (arith, later t i e h (omega arith) free s)))) ∙ is
inside_grow q t i e m false s h past within free is = sym (met_take q t i m (omega arith) (bad_take_none t i m (omega arith) s)) ∙ is

grow_step : (q : ℕ) (t : List ℕ) (i k e m places : ℕ) (here : Met) (next : Ending) → is_quote q ≡ true → met q (take m t) i ≡ here → next ≡ first_met q (take m t) (i + 1) k
    → unless_inside here i next ≡ ends_closed e → e < m → m ≤ length t → i + places ≡ length t
    → ((more : ℕ) → next ≡ ends_closed e → (i + 1) + more ≡ length t → first_met q t (i + 1) more ≡ ends_closed e) → Closes q (take m t) i (suc k) e → first_met q t i places ≡ ends_closed e
unfolding first_met
grow_step q t i k e m zero here next quote is next_is h past within sum go c = absurd (let f = c.from in omega arith)
grow_step q t i k e m (suc places) inside next quote is next_is h past within sum go c =
    let n = closes-at q (take m t) (i + 1) k e (sym next_is ∙ h) in
    let f = n.from in
    let free : is_escaped t e ≡ false = sym (escaped_take t e m past) ∙ not_true (is_escaped (take m t) e) (closes q (take m t) e c.here).1 in
    ap (λ x. unless_inside x i (first_met q t (i + 1) places)) (inside_grow q t i e m (begins_escape t i) refl (omega arith) past within free is)
    ∙ go places h (omega arith)
grow_step q t i k e m (suc places) closing next quote is next_is h past within sum go c =
    let f = c.from in
    ap (λ x. unless_inside x i (first_met q t (i + 1) places)) (closing_grow q t i m quote (omega arith) is) ∙ h
grow_step q t i k e m (suc places) (spoiled x) next quote is next_is h past within sum go c = absurd (let f = ap (λ x. x.found) h in cc)

grow : (q : ℕ) (t : List ℕ) (i k e m places : ℕ) → is_quote q ≡ true → first_met q (take m t) i k ≡ ends_closed e → e < m → m ≤ length t → i + places ≡ length t → first_met q t i places ≡ ends_closed e
unfolding first_met
grow q t i zero e m places quote h past within sum = absurd (let f = ap (λ x. x.found) h in cc)
grow q t i (suc k) e m places quote h past within sum =
    grow_step q t i k e m places (met q (take m t) i) (first_met q (take m t) (i + 1) k) quote refl refl h past within sum (λ j g s. grow q t (i + 1) k e m j quote g past within s)
    (closes-at q (take m t) i (suc k) e h)

literal_take : (t : List ℕ) (m : ℕ) → 2 ≤ m → starts_literal (take m t) ≡ starts_literal t
unfolding starts_literal starts_with_quote starts_wide
literal_take t zero h = absurd (omega arith)
literal_take t (suc zero) h = absurd (omega arith)
literal_take [] (suc (suc m)) h = refl
literal_take (b ∷ []) (suc (suc m)) h = refl
literal_take (b ∷ c ∷ t) (suc (suc m)) h = refl

start_take : (t : List ℕ) (m : ℕ) → 2 ≤ m → contents_start (take m t) ≡ contents_start t
unfolding contents_start starts_wide starts_with_quote
start_take t zero h = absurd (omega arith)
start_take t (suc zero) h = absurd (omega arith)
start_take [] (suc (suc m)) h = refl
start_take (b ∷ []) (suc (suc m)) h = refl
start_take (b ∷ c ∷ t) (suc (suc m)) h = refl

quote_take : (t : List ℕ) (m : ℕ) → 2 ≤ m → quote_of (take m t) ≡ quote_of t
unfolding quote_of contents_start starts_wide starts_with_quote
quote_take t zero h = absurd (omega arith)
quote_take t (suc zero) h = absurd (omega arith)
quote_take [] (suc (suc m)) h = refl
quote_take (b ∷ []) (suc (suc m)) h = refl
quote_take (b ∷ c ∷ t) (suc (suc m)) h = by (nat_eq b 76 && is_quote c) where
  by : (w : Bool) → get_or (b ∷ c ∷ take m t) (cond w 2 1 - 1) 0 ≡ get_or (b ∷ c ∷ t) (cond w 2 1 - 1) 0
  by true = refl
  by false = refl

from_start : (t : List ℕ) (e : ℕ) → ending t ≡ ends_closed e → contents_start t ≤ e
unfolding ending
from_start t e h = let c = closes-at (quote_of t) t (contents_start t) (length t - contents_start t) e h in c.from

ending_grow : (t : List ℕ) (e m : ℕ) → 2 ≤ m → e < m → m ≤ length t → contents_start (take m t) ≤ e → is_quote (quote_of (take m t)) ≡ true → ending (take m t) ≡ ends_closed e → ending t ≡ ends_closed e
unfolding ending
ending_grow t e m two past within from quote h =
    ap (λ q. first_met q t (contents_start t) (length t - contents_start t)) (sym (quote_take t m two))
    ∙ ap (λ s. first_met (quote_of (take m t)) t s (length t - s)) (sym (start_take t m two))
    ∙ grow (quote_of (take m t)) t (contents_start (take m t)) (length (take m t) - contents_start (take m t)) e m (length t - contents_start (take m t)) quote h past within (omega (arith, from))

closes_grow : (t : List ℕ) (e m : ℕ) → e < m → m ≤ length t → starts_literal (take m t) ≡ true → ending (take m t) ≡ ends_closed e → ClosesLiteral t e
closes_grow t e m past within literal ends =
    let from : contents_start (take m t) ≤ e = from_start (take m t) e ends in
    let two : 2 ≤ m = omega (arith, from, contents-start (take m t)) in
    record {
      literal = sym (literal_take t m two) ∙ literal;
      within = omega arith;
      ends = ending_grow t e m two past within from (quote-is (take m t) literal) ends;
    }

-- no longer text is a spelling
pub literal-no_longer : (t : List ℕ) (c : ℕ) (p : List ℕ) → IsLiteralText t → is_some (spelling_of C90 (t ++ c ∷ p)) ≡ false
literal-no_longer t c p h =
    let u = t ++ c ∷ p in
    let more : length u ≡ length t + length (c ∷ p) = length-append t (c ∷ p) in
    let begin : take (length t) u ≡ t = take-append_seam t (c ∷ p) in
    let whole = closes_grow u h.place (length t) (omega (arith, h.last)) (omega (arith, more)) (ap starts_literal begin ∙ h.literal) (ap ending begin ∙ h.ends) in
    let longest = literal-longest C90 u h.place whole in
    ap (λ x. is_some (spelling_of C90 x)) (sym (take-length u)) ∙ longest.longer (length u) (omega (arith, more, h.last)) (omega arith)

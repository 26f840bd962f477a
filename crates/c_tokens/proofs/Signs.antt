-- Signs: punctuators, marks without words, and bytes that begin nothing.
use Rattle.std.proofs.Common.{◌≡◌, refl, sym, ap, subst, ◌∙◌, ℕ, zero, suc, ◌<◌, ◌≤◌, Bool, true, false, cond, not, ◌&&◌, ◌||◌, List, [], ◌∷◌, length, take, map, Option, Some, None, is_some, nat_eq, nat_lt, bytes_eq, arith}
use Rattle.std.specs.List.{starts_with}
use Rattle.std.proofs.lemmas.Bool.Decides.{nat_tests}
use Rattle.std.proofs.lemmas.List.{length-take, length-take-le}
use Rattle.std.proofs.lemmas.Slice.Eq.{bytes_eq-Decides}
use Rattle.c_tokens.specs.Bytes.{is_digit, is_letter, is_white_space}
use Rattle.c_tokens.specs.declared.lexical.Dialect.{Dialect}
use Rattle.c_tokens.specs.declared.lexical.Dialect.TheVariants.{C90, C95}
use Rattle.c_tokens.specs.Constants.{starts_with_digit}
use Rattle.c_tokens.specs.Spelling.{Table, find_text, punctuators, others_in, other_punctuators, sign_marks, is_word, is_word_after_at, is_marked_word, is_number, goes_on_number, Spelling, stray_spelling, sign_spelling, spelling_of}
use Rattle.c_tokens.specs.Runs.{opens, starts_with_letter, starts_number, starts_after_at, starts_after_backquote, starts_sign, first_prefix}
use Rattle.c_tokens.proofs.Longest.{IsLongest}
use Rattle.c_tokens.proofs.Tables.{and_true, not_true, none_passes, find-none, no_sign, spelling-sign}
use Rattle.c_tokens.proofs.Reaches.{no_word, no_space, opens-beginning}

-- where no other kind of spelling begins

weaker : (a s w : Bool) → (a && s) ≡ false → (s ≡ false → w ≡ false) → (a && w) ≡ false
weaker true s w h f = f h
weaker false s w h f = refl

both_false : (a b : Bool) → (a || b) ≡ false → (a ≡ false) × (b ≡ false)
both_false true b h = absurd cc
both_false false b h = (refl, h)

either_false : (a b : Bool) → a ≡ false → b ≡ false → (a || b) ≡ false
either_false a b e f = ap (λ c. c || b) e ∙ f

no_word_begins : (k : ℕ) (r : List ℕ) → starts_with_letter r ≡ false → is_word (take k r) ≡ false
unfolding starts_with_letter is_word
no_word_begins zero r e = refl
no_word_begins (suc k) [] e = refl
no_word_begins (suc k) (x ∷ r) e = no_word x (take k r) e

no_word_after_at_begins : (k : ℕ) (r : List ℕ) → starts_after_at r ≡ false → is_word_after_at (take k r) ≡ false
unfolding starts_after_at is_word_after_at
no_word_after_at_begins zero r e = refl
no_word_after_at_begins (suc k) [] e = refl
no_word_after_at_begins (suc k) (x ∷ r) e = weaker (nat_eq x 64) (starts_with_letter r) (is_word (take k r)) e (no_word_begins k r)

no_marked_begins : (b k : ℕ) (r : List ℕ) → starts_after_at (b ∷ r) ≡ false → starts_after_backquote (b ∷ r) ≡ false → is_marked_word (b ∷ take k r) ≡ false
unfolding starts_after_at starts_after_backquote is_marked_word is_word_after_at
no_marked_begins b k r e f =
    either_false (nat_eq b 64 && is_word (take k r)) (nat_eq b 96 && is_word_after_at (take k r)) (weaker (nat_eq b 64) (starts_with_letter r) (is_word (take k r)) e (no_word_begins k r))
    (weaker (nat_eq b 96) (starts_after_at r) (is_word_after_at (take k r)) f (no_word_after_at_begins k r))

no_digit_begins : (k : ℕ) (r : List ℕ) → starts_with_digit r ≡ false → starts_with_digit (take k r) ≡ false
unfolding starts_with_digit
no_digit_begins zero r e = refl
no_digit_begins (suc k) [] e = refl
no_digit_begins (suc k) (x ∷ r) e = e

no_number_begins : (b k : ℕ) (r : List ℕ) → starts_number (b ∷ r) ≡ false → is_number (b ∷ take k r) ≡ false
unfolding starts_number is_number
no_number_begins b k r e =
    let h = both_false (is_digit b) (nat_eq b 46 && starts_with_digit r) e in
    ap (λ c. c && goes_on_number b (take k r)) (either_false (is_digit b) (nat_eq b 46 && starts_with_digit (take k r)) h.0 (weaker (nat_eq b 46) (starts_with_digit r) (starts_with_digit (take k r)) h.1 (no_digit_begins k r)))

-- only signs may stand there
pub sign-only : (d : Dialect) (b : ℕ) (r : List ℕ) → opens d (b ∷ r) ≡ false → starts_sign (b ∷ r) ≡ true → (k : ℕ) → spelling_of d (b ∷ take k r) ≡ sign_spelling d (b ∷ take k r)
unfolding starts_sign
sign-only d b r o h k =
    let h1 = and_true (not (is_letter b) && not (is_white_space b) && not (starts_number (b ∷ r)) && not (starts_after_at (b ∷ r))) (not (starts_after_backquote (b ∷ r))) h in
    let h2 = and_true (not (is_letter b) && not (is_white_space b) && not (starts_number (b ∷ r))) (not (starts_after_at (b ∷ r))) h1.0 in
    let h3 = and_true (not (is_letter b) && not (is_white_space b)) (not (starts_number (b ∷ r))) h2.0 in
    let h4 = and_true (not (is_letter b)) (not (is_white_space b)) h3.0 in
    spelling-sign d (b ∷ take k r) (opens-beginning d b r k o) (no_word b (take k r) (not_true (is_letter b) h4.0)) (no_marked_begins b k r (not_true (starts_after_at (b ∷ r)) h2.1) (not_true (starts_after_backquote (b ∷ r)) h1.1))
    (no_number_begins b k r (not_true (starts_number (b ∷ r)) h3.1)) (no_space b (take k r) (not_true (is_white_space b) h4.1))

-- a table of all signs, in which no text begins with a shorter one before it

abbrev pub falls : {A : Type 0} → Table A → Bool
falls [] = true
falls (entry ∷ others) = none_passes (λ s. nat_lt (length entry.0) (length s) && starts_with nat_eq s entry.0) others && falls others

abbrev pub is_missing : {A : Type 0} → Table A → List ℕ → Bool
is_missing table text = not (is_some (find_text text table))

pub record HasAllSigns (dialect : Dialect) (table : Table Spelling) : Type 0 where
  pub sorted : falls table ≡ true
  pub sound : map (λ e. sign_spelling dialect e.0) table ≡ map (λ e. Some e.1) table
  pub has_punctuators : none_passes (is_missing table) punctuators ≡ true
  pub has_marks : none_passes (is_missing table) sign_marks ≡ true
  pub has_others : none_passes (is_missing table) (others_in dialect) ≡ true

missing_sign : (d : Dialect) (table : Table Spelling) → HasAllSigns d table → (t : List ℕ) → find_text t table ≡ None → sign_spelling d t ≡ stray_spelling t
missing_sign d table h t e = no_sign d (is_missing table) t (ap (λ o. not (is_some o)) e) h.has_punctuators h.has_marks h.has_others

-- the entry that was found
pub record Starts (dialect : Dialect) (text : List ℕ) (entry : List ℕ × Spelling) : Type 0 where
  pub within : length entry.0 ≤ length text
  pub same : take (length entry.0) text ≡ entry.0
  pub spelled : sign_spelling dialect entry.0 ≡ Some entry.1

starts-same : (text p : List ℕ) → starts_with nat_eq text p ≡ true → p ≡ take (length p) text
starts-same text p h = (bytes_eq-Decides p (take (length p) text)).0 h

starts-within : (text p : List ℕ) → p ≡ take (length p) text → length p ≤ length text
starts-within text p e = omega (arith, ap length e, length-take (length p) text)

found_here : (d : Dialect) (text : List ℕ) (here entry : List ℕ × Spelling) (rest : Option (List ℕ × Spelling)) (b : Bool) → starts_with nat_eq text here.0 ≡ b → sign_spelling d here.0 ≡ Some here.1 → cond b (Some here) rest ≡ Some entry → (rest ≡ Some entry → Starts d text entry) → Starts d text entry
found_here d text here entry rest true e s h go =
    let p = starts-same text here.0 e in
    let same : here ≡ entry = cc in
    subst (Starts d text) same (record { within = starts-within text here.0 p; same = sym p; spelled = s })
found_here d text here entry rest false e s h go = go h

first_is : (a b : Option Spelling) (xs ys : List (Option Spelling)) → (a ∷ xs) ≡ (b ∷ ys) → a ≡ b
first_is a b xs ys e = cc

others_are : (a b : Option Spelling) (xs ys : List (Option Spelling)) → (a ∷ xs) ≡ (b ∷ ys) → xs ≡ ys
others_are a b xs ys e = cc

found : (d : Dialect) (text : List ℕ) (table : Table Spelling) (entry : List ℕ × Spelling) → map (λ e. sign_spelling d e.0) table ≡ map (λ e. Some e.1) table → first_prefix text table ≡ Some entry → Starts d text entry
unfolding first_prefix
found d text [] entry s h = absurd cc
found d text (here ∷ others) entry s h =
    found_here d text here entry (first_prefix text others) (starts_with nat_eq text here.0) refl
    (first_is (sign_spelling d here.0) (Some here.1) (map (λ e. sign_spelling d e.0) others) (map (λ e. Some e.1) others) s) h
    (λ i. found d text others entry (others_are (sign_spelling d here.0) (Some here.1) (map (λ e. sign_spelling d e.0) others) (map (λ e. Some e.1) others) s) i)

-- a beginning that is equal to a text starts with it
equal_starts : (text p : List ℕ) (m : ℕ) → m ≤ length text → take m text ≡ p → starts_with nat_eq text p ≡ true
equal_starts text p m within e =
    let n : length p ≡ m = sym (ap length e) ∙ length-take-le m text within in
    (bytes_eq-Decides p (take (length p) text)).1 (sym e ∙ ap (λ k. take k text) (sym n))

unequal : (text p : List ℕ) (m : ℕ) (b : Bool) → m ≤ length text → starts_with nat_eq text p ≡ false → bytes_eq (take m text) p ≡ b → b ≡ false
unequal text p m true within no_start e = absurd (let h = equal_starts text p m within ((bytes_eq-Decides (take m text) p).0 e) in cc)
unequal text p m false within no_start e = refl

miss : {A : Type 0} (b : Bool) (x : A) (rest : Option A) → b ≡ false → rest ≡ None → cond b (Some x) rest ≡ None
miss b x rest e f = ap (λ c. cond c (Some x) rest) e ∙ f

not_found_here : (text : List ℕ) (here : List ℕ × Spelling) (others : Table Spelling) (m : ℕ) (b : Bool) → m ≤ length text → starts_with nat_eq text here.0 ≡ b → cond b (Some here) (first_prefix text others) ≡ None → (first_prefix text others ≡ None → find_text (take m text) others ≡ None) → cond (bytes_eq (take m text) here.0) (Some here.1) (find_text (take m text) others) ≡ None
not_found_here text here others m true within e h go = absurd cc
not_found_here text here others m false within e h go =
    miss (bytes_eq (take m text) here.0) here.1 (find_text (take m text) others) (unequal text here.0 m (bytes_eq (take m text) here.0) within e refl) (go h)

not_found : (text : List ℕ) (table : Table Spelling) → first_prefix text table ≡ None → (m : ℕ) → m ≤ length text → find_text (take m text) table ≡ None
unfolding first_prefix find_text
not_found text [] h m within = refl
not_found text (here ∷ others) h m within =
    not_found_here text here others m (starts_with nat_eq text here.0) within refl h (λ i. not_found text others i m within)

longer_text : (t p : List ℕ) (b : Bool) → length p < length t → bytes_eq t p ≡ b → b ≡ false
longer_text t p true l e = absurd (let h = ap length ((bytes_eq-Decides t p).0 e) in omega (arith, h))
longer_text t p false l e = refl

is_longer : (a b : ℕ) → a < b → nat_lt a b ≡ true
is_longer a b h = grind (arith, nat_tests)

both : (a b : Bool) → a ≡ true → b ≡ true → (a && b) ≡ true
both a b e f = ap (λ c. c && b) e ∙ f

shorter_beginning : (text : List ℕ) (n m : ℕ) → n < m → take n (take m text) ≡ take n text
shorter_beginning text zero m h = refl
shorter_beginning text (suc n) zero h = absurd (omega arith)
shorter_beginning [] (suc n) (suc m) h = refl
shorter_beginning (b ∷ text) (suc n) (suc m) h = ap (λ t. b ∷ t) (shorter_beginning text n m (omega arith))

-- a beginning that is longer than a text with which the whole starts
starts_too : (text p : List ℕ) (m : ℕ) → starts_with nat_eq text p ≡ true → length p < m → starts_with nat_eq (take m text) p ≡ true
starts_too text p m h l = (bytes_eq-Decides p (take (length p) (take m text))).1 (starts-same text p h ∙ sym (shorter_beginning text (length p) m l))

beyond_here : (text : List ℕ) (here entry : List ℕ × Spelling) (others : Table Spelling) (m : ℕ) (b : Bool) → m ≤ length text → length entry.0 < m → none_passes (λ s. nat_lt (length here.0) (length s) && starts_with nat_eq s here.0) others ≡ true
    → starts_with nat_eq text here.0 ≡ b → cond b (Some here) (first_prefix text others) ≡ Some entry → (first_prefix text others ≡ Some entry → find_text (take m text) others ≡ None)
    → cond (bytes_eq (take m text) here.0) (Some here.1) (find_text (take m text) others) ≡ None
beyond_here text here entry others m true within past sorted e h go =
    let same : here ≡ entry = cc in
    let n : length (take m text) ≡ m = length-take-le m text within in
    let shorter : length here.0 < m = omega (arith, ap (λ x. length x.0) same) in
    let l : length here.0 < length (take m text) = omega (arith, n, shorter) in
    miss (bytes_eq (take m text) here.0) here.1 (find_text (take m text) others) (longer_text (take m text) here.0 (bytes_eq (take m text) here.0) l refl)
    (find-none (λ s. nat_lt (length here.0) (length s) && starts_with nat_eq s here.0) (take m text) others
    (both (nat_lt (length here.0) (length (take m text))) (starts_with nat_eq (take m text) here.0) (is_longer (length here.0) (length (take m text)) l) (starts_too text here.0 m e shorter)) sorted)
beyond_here text here entry others m false within past sorted e h go =
    miss (bytes_eq (take m text) here.0) here.1 (find_text (take m text) others) (unequal text here.0 m (bytes_eq (take m text) here.0) within e refl) (go h)

beyond : (text : List ℕ) (table : Table Spelling) (entry : List ℕ × Spelling) → falls table ≡ true → first_prefix text table ≡ Some entry → (m : ℕ) → length entry.0 < m → m ≤ length text → find_text (take m text) table ≡ None
unfolding first_prefix find_text
beyond text [] entry s h m past within = refl
beyond text (here ∷ others) entry s h m past within =
    let p = and_true (none_passes (λ s. nat_lt (length here.0) (length s) && starts_with nat_eq s here.0) others) (falls others) s in
    beyond_here text here entry others m (starts_with nat_eq text here.0) within past p.0 refl h (λ i. beyond text others entry p.1 i m past within)

by_signs : (d : Dialect) (b : ℕ) (r : List ℕ) → opens d (b ∷ r) ≡ false → starts_sign (b ∷ r) ≡ true → (n : ℕ) → 0 < n → spelling_of d (take n (b ∷ r)) ≡ sign_spelling d (take n (b ∷ r))
by_signs d b r o s zero some = absurd (omega arith)
by_signs d b r o s (suc k) some = sign-only d b r o s k

no_empty_sign : (d : Dialect) → sign_spelling d [] ≡ None
unfolding sign_spelling find_text punctuators other_punctuators sign_marks stray_spelling
no_empty_sign C90 = refl
no_empty_sign C95 = refl

some_sign : (d : Dialect) (t : List ℕ) (x : Spelling) → sign_spelling d t ≡ Some x → 0 < length t
some_sign d [] x h = absurd (let e = no_empty_sign d in cc)
some_sign d (b ∷ t) x h = omega arith

-- what the first entry says of a text where only signs may stand

pub spelled-sign : (d : Dialect) (table : Table Spelling) → HasAllSigns d table → (b : ℕ) (r : List ℕ) (entry : List ℕ × Spelling) → opens d (b ∷ r) ≡ false → starts_sign (b ∷ r) ≡ true → first_prefix (b ∷ r) table ≡ Some entry → spelling_of d (take (length entry.0) (b ∷ r)) ≡ Some entry.1
spelled-sign d table a b r entry o s h =
    let f = found d (b ∷ r) table entry a.sound h in
    by_signs d b r o s (length entry.0) (some_sign d entry.0 entry.1 f.spelled) ∙ ap (sign_spelling d) f.same ∙ f.spelled

no_stray_beyond : (b m : ℕ) (r : List ℕ) → 1 < m → m ≤ length (b ∷ r) → stray_spelling (take m (b ∷ r)) ≡ None
unfolding stray_spelling
no_stray_beyond b zero r past within = absurd (omega arith)
no_stray_beyond b (suc zero) r past within = absurd (omega arith)
no_stray_beyond b (suc (suc k)) [] past within = absurd (omega arith)
no_stray_beyond b (suc (suc k)) (x ∷ r) past within = refl

pub sign-longest : (d : Dialect) (table : Table Spelling) → HasAllSigns d table → (b : ℕ) (r : List ℕ) (entry : List ℕ × Spelling) → opens d (b ∷ r) ≡ false → starts_sign (b ∷ r) ≡ true → first_prefix (b ∷ r) table ≡ Some entry → IsLongest d (b ∷ r) (length entry.0)
sign-longest d table a b r entry o s h =
    let f = found d (b ∷ r) table entry a.sound h in
    let some = some_sign d entry.0 entry.1 f.spelled in
    record {
      some = some;
      within = f.within;
      spells = ap is_some (spelled-sign d table a b r entry o s h);
      longer = λ m past within.
          ap is_some (by_signs d b r o s m (omega arith) ∙ missing_sign d table a (take m (b ∷ r)) (beyond (b ∷ r) table entry a.sorted h m past within) ∙ no_stray_beyond b m r (omega arith) within);
    }

pub spelled-stray : (d : Dialect) (table : Table Spelling) → HasAllSigns d table → (b : ℕ) (r : List ℕ) → opens d (b ∷ r) ≡ false → starts_sign (b ∷ r) ≡ true → first_prefix (b ∷ r) table ≡ None → spelling_of d (b ∷ []) ≡ stray_spelling (b ∷ [])
spelled-stray d table a b r o s h = by_signs d b r o s 1 (omega arith) ∙ missing_sign d table a (b ∷ []) (not_found (b ∷ r) table h 1 (omega arith))

stray_some : (b : ℕ) → is_some (stray_spelling (b ∷ [])) ≡ true
unfolding stray_spelling
stray_some b = refl

pub stray-longest : (d : Dialect) (table : Table Spelling) → HasAllSigns d table → (b : ℕ) (r : List ℕ) → opens d (b ∷ r) ≡ false → starts_sign (b ∷ r) ≡ true → first_prefix (b ∷ r) table ≡ None → IsLongest d (b ∷ r) 1
stray-longest d table a b r o s h = record {
  some = omega arith;
  within = omega arith;
  spells = ap is_some (spelled-stray d table a b r o s h) ∙ stray_some b;
  longer = λ m past within. ap is_some (by_signs d b r o s m (omega arith) ∙ missing_sign d table a (take m (b ∷ r)) (not_found (b ∷ r) table h m within) ∙ no_stray_beyond b m r past within);
}

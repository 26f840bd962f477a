-- The longest spelling where a comment, a line marker or a literal begins.
use Rattle.std.proofs.Common.{◌≡◌, refl, sym, ap, subst, ◌∙◌, ℕ, zero, suc, ◌+◌, ◌-◌, ◌<◌, ◌≤◌, Bool, true, false, cond, not, ◌&&◌, ◌||◌, List, [], ◌∷◌, length, take, drop, reverse, get_or, Option, Some, None, option_map, is_some, nat_eq, nat_le, arith}
use Rattle.std.specs.List.{prefix_len}
use Rattle.std.proofs.lemmas.Bool.{eqb-true}
use Rattle.std.proofs.lemmas.Bool.Decides.{nat_tests}
use Rattle.std.proofs.lemmas.Grind.{common_steps}
use Rattle.std.proofs.lemmas.List.{length-take-le}
use Rattle.std.proofs.lemmas.List.Sums.{prefix_len-le-length}
use Rattle.c_tokens.specs.declared.lexical.Dialect.{Dialect}
use Rattle.c_tokens.specs.declared.lexical.LexCause.{LexCause}
use Rattle.c_tokens.specs.declared.lexical.LexCause.TheVariants as cause
use Rattle.c_tokens.specs.declared.token.TheConstants.{MAX_LITERAL_BYTES}
use Rattle.c_tokens.specs.Bytes.{is_blank, is_quote, is_backslash, is_no_line_feed}
use Rattle.c_tokens.specs.Constants.{starts_with_digit, starts_with_hexadecimal}
use Rattle.c_tokens.specs.Literals.{starts_with_quote, starts_wide, starts_literal, contents_start, is_odd, is_escaped, starts_escape, is_bad_escape, Met, inside, closing, spoiled, met, Ending, unless_inside, first_met, quote_of, ending}
use Rattle.c_tokens.specs.Skipped.{starts_with_byte, starts_comment, through_close, starts_percent_colon, starts_directive, line_run, starts_marker_rest, after_directive, is_marker_line}
use Rattle.c_tokens.specs.Spelling.{Spelling, space, marker, refused, closed_spelling, spoiled_spelling, ended_spelling, closed_comment, literal_spelling, comment_spelling, directive_spelling, spelling_of}
use Rattle.c_tokens.specs.Runs.{OpensLine}
use Rattle.c_tokens.proofs.Longest.{IsLongest}
use Rattle.c_tokens.proofs.Tables.{and_true, and_false, not_true, spelling-literal, spelling-comment, spelling-directive}

take_whole : (t : List ℕ) → take (length t) t ≡ t
take_whole t = grind (arith, common_steps)

-- a text that is all of one spelling
pub whole-longest : (d : Dialect) (t : List ℕ) (s : Spelling) → 0 < length t → spelling_of d t ≡ Some s → IsLongest d t (length t)
whole-longest d t s some e = record {
  some = some;
  within = omega arith;
  spells = ap (λ u. is_some (spelling_of d u)) (take_whole t) ∙ ap is_some e;
  longer = λ m past within. absurd (omega arith);
}

-- comments

byte_take : (c k : ℕ) (r : List ℕ) → starts_with_byte c (take (suc k) r) ≡ starts_with_byte c r
unfolding starts_with_byte
byte_take c k [] = refl
byte_take c k (x ∷ r) = refl

not_here : (b k : ℕ) (r : List ℕ) → (nat_eq b 42 && starts_with_byte 47 r) ≡ false → (nat_eq b 42 && starts_with_byte 47 (take k r)) ≡ false
unfolding starts_with_byte
not_here b zero r h = and_false (nat_eq b 42) false refl
not_here b (suc k) [] h = h
not_here b (suc k) (x ∷ r) h = h

two_at_most : (b : Bool) (o : Option ℕ) → b ≡ true → cond b (Some 2) (option_map suc o) ≡ Some 2
two_at_most b o e = ap (λ c. cond c (Some 2) (option_map suc o)) e

one_further : (b : Bool) (o : Option ℕ) (n : ℕ) → b ≡ false → o ≡ Some n → cond b (Some 2) (option_map suc o) ≡ Some (suc n)
one_further b o n e f = ap (λ c. cond c (Some 2) (option_map suc o)) e ∙ ap (option_map suc) f

some_is : (a b : ℕ) → Some a ≡ Some b → a ≡ b
some_is a b e = cc

close_here : (b : ℕ) (r : List ℕ) (n m : ℕ) (here : Bool) (o : Option ℕ) → (nat_eq b 42 && starts_with_byte 47 r) ≡ here → through_close r ≡ o → cond here (Some 2) (option_map suc o) ≡ Some n → n ≤ m
    → ((k j : ℕ) → o ≡ Some k → k ≤ j → through_close (take j r) ≡ Some k) → through_close (take m (b ∷ r)) ≡ Some n
unfolding through_close
close_here b r n zero true o e f h within go = absurd (omega (arith, some_is 2 n h))
close_here b r n (suc zero) true o e f h within go = absurd (omega (arith, some_is 2 n h))
close_here b r n (suc (suc m)) true o e f h within go =
    two_at_most (nat_eq b 42 && starts_with_byte 47 (take (suc m) r)) (through_close (take (suc m) r)) (ap (λ x. nat_eq b 42 && x) (byte_take 47 m r) ∙ e) ∙ h
close_here b r n m false None e f h within go = absurd cc
close_here b r n zero false (Some k) e f h within go = absurd (omega (arith, some_is (suc k) n h))
close_here b r n (suc m) false (Some k) e f h within go =
    one_further (nat_eq b 42 && starts_with_byte 47 (take m r)) (through_close (take m r)) k (not_here b m r e) (go k m refl (omega (arith, some_is (suc k) n h))) ∙ h

close_take : (r : List ℕ) (n m : ℕ) → through_close r ≡ Some n → n ≤ m → through_close (take m r) ≡ Some n
unfolding through_close
close_take [] n m e within = absurd cc
close_take (b ∷ r) n m e within =
    close_here b r n m (nat_eq b 42 && starts_with_byte 47 r) (through_close r) refl refl e within (λ k j f w. close_take r k j f w)

pair_within : (b : ℕ) (r : List ℕ) → (nat_eq b 42 && starts_with_byte 47 r) ≡ true → 2 ≤ length (b ∷ r)
unfolding starts_with_byte
pair_within b [] e = absurd (let f = and_false (nat_eq b 42) false refl in cc)
pair_within b (x ∷ r) e = omega arith

within_here : (b : ℕ) (r : List ℕ) (n : ℕ) (here : Bool) (o : Option ℕ) → (nat_eq b 42 && starts_with_byte 47 r) ≡ here → cond here (Some 2) (option_map suc o) ≡ Some n → ((k : ℕ) → o ≡ Some k → k ≤ length r) → n ≤ length (b ∷ r)
within_here b r n true o e h go = omega (arith, some_is 2 n h, pair_within b r e)
within_here b r n false None e h go = absurd cc
within_here b r n false (Some k) e h go = omega (arith, some_is (suc k) n h, go k refl)

pub close-within : (r : List ℕ) (n : ℕ) → through_close r ≡ Some n → n ≤ length r
unfolding through_close
close-within [] n e = absurd cc
close-within (b ∷ r) n e = within_here b r n (nat_eq b 42 && starts_with_byte 47 r) (through_close r) refl e (λ k f. close-within r k f)

comment_is : (d : Dialect) (u : List ℕ) → spelling_of d (47 ∷ 42 ∷ u) ≡ closed_comment (length u) (through_close u)
unfolding starts_literal starts_with_quote starts_wide is_quote starts_comment starts_with_byte comment_spelling
comment_is d u = spelling-comment d (47 ∷ 42 ∷ u) refl refl ∙ ap (λ n. closed_comment n (through_close u)) (omega arith)

pub open-comment : (d : Dialect) (r : List ℕ) → through_close r ≡ None → spelling_of d (47 ∷ 42 ∷ r) ≡ Some (refused 0 cause.OpenComment)
open-comment d r e = comment_is d r ∙ ap (closed_comment (length r)) e

same_number : (a b : ℕ) → a ≡ b → nat_eq a b ≡ true
same_number a b e = grind (arith, nat_tests)

other_number : (a b : ℕ) → a < b → nat_eq a b ≡ false
other_number a b h = grind (arith, nat_tests)

pub spelled-comment : (d : Dialect) (r : List ℕ) (n : ℕ) → through_close r ≡ Some n → spelling_of d (47 ∷ 42 ∷ take n r) ≡ Some space
spelled-comment d r n e =
    let l : length (take n r) ≡ n = length-take-le n r (close-within r n e) in
    comment_is d (take n r) ∙ ap (closed_comment (length (take n r))) (close_take r n n e (omega arith))
    ∙ ap (λ b. cond b (Some space) None) (same_number n (length (take n r)) (sym l))

beyond_comment : (d : Dialect) (r : List ℕ) (n : ℕ) → through_close r ≡ Some n → (m : ℕ) → suc (suc n) < m → m ≤ length (47 ∷ 42 ∷ r) → is_some (spelling_of d (take m (47 ∷ 42 ∷ r))) ≡ false
beyond_comment d r n e zero past within = absurd (omega arith)
beyond_comment d r n e (suc zero) past within = absurd (omega arith)
beyond_comment d r n e (suc (suc m)) past within =
    let l : length (take m r) ≡ m = length-take-le m r (omega arith) in
    ap is_some (comment_is d (take m r) ∙ ap (closed_comment (length (take m r))) (close_take r n m e (omega arith))
    ∙ ap (λ b. cond b (Some space) None) (other_number n (length (take m r)) (omega (arith, l))))

pub comment-longest : (d : Dialect) (r : List ℕ) (n : ℕ) → through_close r ≡ Some n → IsLongest d (47 ∷ 42 ∷ r) (suc (suc n))
comment-longest d r n e = record {
  some = omega arith;
  within = omega (arith, close-within r n e);
  spells = ap is_some (spelled-comment d r n e);
  longer = beyond_comment d r n e;
}

-- the tests on the first two bytes

literal_take : (t : List ℕ) (m : ℕ) → 2 ≤ m → starts_literal (take m t) ≡ starts_literal t
unfolding starts_literal starts_with_quote starts_wide
literal_take t zero h = absurd (omega arith)
literal_take t (suc zero) h = absurd (omega arith)
literal_take [] (suc (suc m)) h = refl
literal_take (b ∷ []) (suc (suc m)) h = refl
literal_take (b ∷ c ∷ t) (suc (suc m)) h = refl

comment_take : (t : List ℕ) (m : ℕ) → 2 ≤ m → starts_comment (take m t) ≡ starts_comment t
unfolding starts_comment starts_with_byte
comment_take t zero h = absurd (omega arith)
comment_take t (suc zero) h = absurd (omega arith)
comment_take [] (suc (suc m)) h = refl
comment_take (b ∷ []) (suc (suc m)) h = refl
comment_take (b ∷ c ∷ t) (suc (suc m)) h = refl

directive_take : (d : Dialect) (t : List ℕ) (m : ℕ) → 2 ≤ m → starts_directive d (take m t) ≡ starts_directive d t
unfolding starts_directive starts_percent_colon starts_with_byte
directive_take d t zero h = absurd (omega arith)
directive_take d t (suc zero) h = absurd (omega arith)
directive_take d [] (suc (suc m)) h = refl
directive_take d (b ∷ []) (suc (suc m)) h = refl
directive_take d (b ∷ c ∷ t) (suc (suc m)) h = refl

-- directives

run_here : (p : ℕ → Bool) (b : Bool) (n k m : ℕ) → cond b (1 + n) 0 ≤ suc m → (n ≤ m → k ≡ n) → cond b (1 + k) 0 ≡ cond b (1 + n) 0
run_here p true n k m within go = ap (λ x. 1 + x) (go (omega arith))
run_here p false n k m within go = refl

no_run : (p : ℕ → Bool) (b : Bool) (n : ℕ) → cond b (1 + n) 0 ≤ 0 → 0 ≡ cond b (1 + n) 0
no_run p true n within = absurd (omega arith)
no_run p false n within = refl

run_take : (p : ℕ → Bool) (t : List ℕ) (m : ℕ) → prefix_len p t ≤ m → prefix_len p (take m t) ≡ prefix_len p t
run_take p [] zero within = refl
run_take p [] (suc m) within = refl
run_take p (b ∷ t) zero within = no_run p (p b) (prefix_len p t) within
run_take p (b ∷ t) (suc m) within = run_here p (p b) (prefix_len p t) (prefix_len p (take m t)) m within (run_take p t m)

take_within : (t : List ℕ) (n m : ℕ) → n ≤ m → take n (take m t) ≡ take n t
take_within t zero m h = refl
take_within t (suc n) zero h = absurd (omega arith)
take_within [] (suc n) (suc m) h = refl
take_within (b ∷ t) (suc n) (suc m) h = ap (λ u. b ∷ u) (take_within t n m (omega arith))

abbrev line_of : List ℕ → List ℕ
line_of t = take (line_run t) t

line_take : (t : List ℕ) (m : ℕ) → line_run t ≤ m → line_of (take m t) ≡ line_of t
unfolding line_run
line_take t m within = ap (λ n. take n (take m t)) (run_take is_no_line_feed t m within) ∙ take_within t (prefix_len is_no_line_feed t) m within

abbrev marker_or_none : Bool → Bool → Option Spelling
marker_or_none is_marker short = cond is_marker (cond short (Some marker) None) (Some (refused 0 cause.Directive))

one_byte : (b : ℕ) (is_hash : Bool) → starts_marker_rest (drop (prefix_len is_blank (drop (cond is_hash 1 2) (b ∷ []))) (drop (cond is_hash 1 2) (b ∷ []))) ≡ false
unfolding starts_marker_rest starts_with_digit
one_byte b true = refl
one_byte b false = refl

no_marker_empty : is_marker_line [] ≡ false
unfolding is_marker_line starts_marker_rest after_directive starts_with_digit starts_with_byte
no_marker_empty = refl

no_marker_one : (b : ℕ) → is_marker_line (b ∷ []) ≡ false
unfolding is_marker_line after_directive starts_with_byte
no_marker_one b = one_byte b (nat_eq b 35)

-- a marker has at least two bytes on its line
pub marker-two : (t : List ℕ) (n : ℕ) → is_marker_line (take n t) ≡ true → 2 ≤ n
marker-two t zero h = absurd (let e = no_marker_empty in cc)
marker-two [] (suc n) h = absurd (let e = no_marker_empty in cc)
marker-two (b ∷ t) (suc zero) h = absurd (let e = no_marker_one b in cc)
marker-two (b ∷ t) (suc (suc n)) h = omega arith

directive_is : (d : Dialect) (t : List ℕ) (m : ℕ) → OpensLine d t → 2 ≤ m → line_run t ≤ m → spelling_of d (take m t) ≡ marker_or_none (is_marker_line (line_of t)) (nat_le (length (take m t)) (line_run t + 1))
unfolding directive_spelling line_run
directive_is d t m o two within =
    spelling-directive d (take m t) (literal_take t m two ∙ o.no_literal) (comment_take t m two ∙ o.no_comment) (directive_take d t m two ∙ o.directive)
    ∙ ap (λ u. marker_or_none (is_marker_line u) (nat_le (length (take m t)) (prefix_len is_no_line_feed (take m t) + 1))) (line_take t m within)
    ∙ ap (λ n. marker_or_none (is_marker_line (line_of t)) (nat_le (length (take m t)) (n + 1))) (run_take is_no_line_feed t m within)

pub opens-take : (d : Dialect) (t : List ℕ) (m : ℕ) → 2 ≤ m → OpensLine d (take m t) → OpensLine d t
opens-take d t m two o = record {
  no_literal = sym (literal_take t m two) ∙ o.no_literal;
  no_comment = sym (comment_take t m two) ∙ o.no_comment;
  directive = sym (directive_take d t m two) ∙ o.directive;
}

pub line-run-le : (t : List ℕ) → line_run t ≤ length t
unfolding line_run
line-run-le t = prefix_len-le-length is_no_line_feed t

at_most : (a b : ℕ) → a ≤ b → nat_le a b ≡ true
at_most a b h = grind (arith, nat_tests)

more_than : (a b : ℕ) → b < a → nat_le a b ≡ false
more_than a b h = grind (arith, nat_tests)

-- the line and its line feed
pub spelled-marker : (d : Dialect) (t : List ℕ) (n : ℕ) → OpensLine d t → is_marker_line (line_of t) ≡ true → line_run t ≤ n → n ≤ length t → n ≤ line_run t + 1 → spelling_of d (take n t) ≡ Some marker
spelled-marker d t n o e from within to =
    let two : 2 ≤ n = omega (arith, marker-two t (line_run t) e) in
    let l : length (take n t) ≡ n = length-take-le n t within in
    directive_is d t n o two from ∙ ap (λ b. marker_or_none b (nat_le (length (take n t)) (line_run t + 1))) e ∙ ap (marker_or_none true) (at_most (length (take n t)) (line_run t + 1) (omega (arith, l)))

pub marker-longest : (d : Dialect) (t : List ℕ) (n : ℕ) → OpensLine d t → is_marker_line (line_of t) ≡ true → line_run t ≤ n → n ≤ length t → n ≤ line_run t + 1 → ((m : ℕ) → n < m → m ≤ length t → line_run t + 1 < m) → IsLongest d t n
marker-longest d t n o e from within to all =
    let two : 2 ≤ n = omega (arith, marker-two t (line_run t) e) in
    record {
      some = omega (arith, two);
      within = within;
      spells = ap is_some (spelled-marker d t n o e from within to);
      longer = λ m past inside.
          let l : length (take m t) ≡ m = length-take-le m t inside in
          ap is_some (directive_is d t m o (omega (arith, two)) (omega arith) ∙ ap (λ b. marker_or_none b (nat_le (length (take m t)) (line_run t + 1))) e
          ∙ ap (marker_or_none true) (more_than (length (take m t)) (line_run t + 1) (omega (arith, l, all m past inside))));
    }

pub other-directive : (d : Dialect) (t : List ℕ) → OpensLine d t → is_marker_line (line_of t) ≡ false → spelling_of d t ≡ Some (refused 0 cause.Directive)
unfolding directive_spelling
other-directive d t o e = spelling-directive d t o.no_literal o.no_comment o.directive ∙ ap (λ b. marker_or_none b (nat_le (length t) (line_run t + 1))) e

-- literals

abbrev pub met_by : Bool → Bool → Bool → Bool → Met
met_by a b c d = cond a (spoiled cause.BadEscape) (cond b (spoiled cause.OpenLiteral) (cond c (spoiled cause.LongLiteral) (cond d closing inside)))

pub met_is : (q : ℕ) (t : List ℕ) (i : ℕ) → met q t i ≡ met_by (is_bad_escape t i) (nat_eq (get_or t i 0) 10) (nat_eq i MAX_LITERAL_BYTES) (nat_eq (get_or t i 0) q && not (is_escaped t i))
unfolding met
met_is q t i = refl

closes_by : (a b c d : Bool) → met_by a b c d ≡ closing → d ≡ true
closes_by true b c d h = absurd cc
closes_by false true c d h = absurd cc
closes_by false false true d h = absurd cc
closes_by false false false true h = refl
closes_by false false false false h = absurd cc

inside_by : (a b c d : Bool) → met_by a b c d ≡ inside → a ≡ false
inside_by true b c d h = absurd cc
inside_by false b c d h = refl

closes : (q : ℕ) (t : List ℕ) (i : ℕ) → met q t i ≡ closing → (nat_eq (get_or t i 0) q ≡ true) × (not (is_escaped t i) ≡ true)
closes q t i h = and_true (nat_eq (get_or t i 0) q) (not (is_escaped t i)) (closes_by (is_bad_escape t i) (nat_eq (get_or t i 0) 10) (nat_eq i MAX_LITERAL_BYTES) (nat_eq (get_or t i 0) q && not (is_escaped t i)) (sym (met_is q t i) ∙ h))

-- how a search goes on

pub record Closes (q : ℕ) (t : List ℕ) (i k e : ℕ) : Type 0 where
  pub from : i ≤ e
  pub to : e < i + k
  pub here : met q t e ≡ closing

closing_at : (q : ℕ) (t : List ℕ) (i k e : ℕ) (m : Met) (next : Ending) → met q t i ≡ m → unless_inside m i next ≡ record { place = e; found = closing } → (next ≡ record { place = e; found = closing } → Closes q t (i + 1) k e) → Closes q t i (suc k) e
closing_at q t i k e inside next is h go = let c = go h in record { from = omega (arith, c.from); to = omega (arith, c.to); here = c.here }
closing_at q t i k e closing next is h go =
    let same : i ≡ e = ap (λ x. x.place) h in
    record { from = omega (arith, same); to = omega (arith, same); here = subst (λ j. met q t j ≡ closing) same is }
closing_at q t i k e (spoiled c) next is h go = absurd (let f = ap (λ x. x.found) h in cc)

pub closes-at : (q : ℕ) (t : List ℕ) (i k e : ℕ) → first_met q t i k ≡ record { place = e; found = closing } → Closes q t i k e
unfolding first_met
closes-at q t i zero e h = absurd (let f = ap (λ x. x.found) h in cc)
closes-at q t i (suc k) e h = closing_at q t i k e (met q t i) (first_met q t (i + 1) k) refl h (λ g. closes-at q t (i + 1) k e g)

-- what is met in a beginning of the text

get_take : (t : List ℕ) (i m : ℕ) → i < m → get_or (take m t) i 0 ≡ get_or t i 0
get_take t i m h = grind (arith, common_steps)

escaped_take : (t : List ℕ) (i m : ℕ) → i < m → is_escaped (take m t) i ≡ is_escaped t i
unfolding is_escaped
escaped_take t i m h = ap (λ u. is_odd (prefix_len is_backslash (reverse u))) (take_within t i m (omega arith))

escape_take : (t : List ℕ) (j m : ℕ) → j + 2 ≤ m → starts_escape (drop j (take m t)) ≡ starts_escape (drop j t)
unfolding starts_escape starts_with_hexadecimal
escape_take t zero zero h = absurd (omega arith)
escape_take t zero (suc zero) h = absurd (omega arith)
escape_take [] zero (suc (suc m)) h = refl
escape_take (b ∷ []) zero (suc (suc m)) h = refl
escape_take (b ∷ c ∷ t) zero (suc (suc m)) h = refl
escape_take t (suc j) zero h = absurd (omega arith)
escape_take [] (suc j) (suc m) h = refl
escape_take (b ∷ t) (suc j) (suc m) h = escape_take t j m (omega arith)

met_take : (q : ℕ) (t : List ℕ) (i m : ℕ) → i < m → is_bad_escape (take m t) i ≡ is_bad_escape t i → met q (take m t) i ≡ met q t i
met_take q t i m h bad =
    met_is q (take m t) i
    ∙ ap (λ a. met_by a (nat_eq (get_or (take m t) i 0) 10) (nat_eq i MAX_LITERAL_BYTES) (nat_eq (get_or (take m t) i 0) q && not (is_escaped (take m t) i))) bad
    ∙ ap (λ b. met_by (is_bad_escape t i) (nat_eq b 10) (nat_eq i MAX_LITERAL_BYTES) (nat_eq b q && not (is_escaped (take m t) i))) (get_take t i m h)
    ∙ ap (λ s. met_by (is_bad_escape t i) (nat_eq (get_or t i 0) 10) (nat_eq i MAX_LITERAL_BYTES) (nat_eq (get_or t i 0) q && not s)) (escaped_take t i m h)
    ∙ sym (met_is q t i)

-- whether an escape begins at a byte
begins_escape : List ℕ → ℕ → Bool
begins_escape t i = is_backslash (get_or t i 0) && not (is_escaped t i)

begins_take : (t : List ℕ) (i m : ℕ) → i < m → begins_escape (take m t) i ≡ begins_escape t i
unfolding begins_escape
begins_take t i m h = ap (λ b. is_backslash b && not (is_escaped (take m t) i)) (get_take t i m h) ∙ ap (λ s. is_backslash (get_or t i 0) && not s) (escaped_take t i m h)

bad_is : (t : List ℕ) (i : ℕ) → is_bad_escape t i ≡ (begins_escape t i && not (starts_escape (drop (i + 1) t)))
unfolding is_bad_escape begins_escape
bad_is t i = refl

bad_take_none : (t : List ℕ) (i m : ℕ) → i < m → begins_escape t i ≡ false → is_bad_escape (take m t) i ≡ is_bad_escape t i
bad_take_none t i m h e =
    bad_is (take m t) i ∙ ap (λ b. b && not (starts_escape (drop (i + 1) (take m t)))) (begins_take t i m h ∙ e) ∙ sym (bad_is t i ∙ ap (λ b. b && not (starts_escape (drop (i + 1) t))) e)

bad_take_all : (t : List ℕ) (i m : ℕ) → i + 3 ≤ m → is_bad_escape (take m t) i ≡ is_bad_escape t i
bad_take_all t i m h =
    bad_is (take m t) i ∙ ap (λ b. b && not (starts_escape (drop (i + 1) (take m t)))) (begins_take t i m (omega arith))
    ∙ ap (λ b. begins_escape t i && not b) (escape_take t (i + 1) m (omega arith)) ∙ sym (bad_is t i)

-- the byte after a backslash that begins an escape belongs to the escape

one_more : (t : List ℕ) (i : ℕ) → i < length t → reverse (take (i + 1) t) ≡ get_or t i 0 ∷ reverse (take i t)
one_more t i within = grind (arith, common_steps)

odd_next : (b : Bool) (n : ℕ) → is_odd (cond b (1 + n) 0) ≡ (b && not (is_odd n))
unfolding is_odd
odd_next true n = ap is_odd (let e : 1 + n ≡ suc n = omega arith in e)
odd_next false n = refl

pub escaped-next : (t : List ℕ) (i : ℕ) → i < length t → is_escaped t (i + 1) ≡ (is_backslash (get_or t i 0) && not (is_escaped t i))
unfolding is_escaped
escaped-next t i within = ap (λ u. is_odd (prefix_len is_backslash u)) (one_more t i within) ∙ odd_next (is_backslash (get_or t i 0)) (prefix_len is_backslash (reverse (take i t)))

quote_no_backslash : (q : ℕ) → is_quote q ≡ true → is_backslash q ≡ false
unfolding is_quote is_backslash
quote_no_backslash q h = grind (arith, nat_tests)

no_escape_begins : (t : List ℕ) (i : ℕ) → is_backslash (get_or t i 0) ≡ false → begins_escape t i ≡ false
unfolding begins_escape
no_escape_begins t i e = ap (λ b. b && not (is_escaped t i)) e

closing_take : (q : ℕ) (t : List ℕ) (i m : ℕ) → is_quote q ≡ true → i < m → met q t i ≡ closing → met q (take m t) i ≡ closing
closing_take q t i m quote h e =
    let c = closes q t i e in
    met_take q t i m h (bad_take_none t i m h (no_escape_begins t i (ap is_backslash (eqb-true (get_or t i 0) q c.0) ∙ quote_no_backslash q quote))) ∙ e

later : (t : List ℕ) (i e : ℕ) → i < e → e < length t → is_escaped t e ≡ false → begins_escape t i ≡ true → i + 2 ≤ e
unfolding begins_escape
later t i e h within free begins = by (nat_eq (i + 1) e) refl where
  by : (b : Bool) → nat_eq (i + 1) e ≡ b → i + 2 ≤ e
  by true s = absurd (let x : is_escaped t e ≡ true = subst (λ j. is_escaped t j ≡ true) (eqb-true (i + 1) e s) (escaped-next t i (omega arith) ∙ begins) in cc)
  by false s = grind (arith, nat_tests)

inside_take : (q : ℕ) (t : List ℕ) (i e m : ℕ) (b : Bool) → begins_escape t i ≡ b → i < e → e < m → m ≤ length t → is_escaped t e ≡ false → met q t i ≡ inside → met q (take m t) i ≡ inside
inside_take q t i e m true s h past within free is = met_take q t i m (omega arith) (bad_take_all t i m (omega (arith, later t i e h (omega arith) free s))) ∙ is
inside_take q t i e m false s h past within free is = met_take q t i m (omega arith) (bad_take_none t i m (omega arith) s) ∙ is

ends_at : ℕ → Ending
ends_at e = record { place = e; found = closing }

search_step : (q : ℕ) (t : List ℕ) (i k e m places : ℕ) (here : Met) (next : Ending) → is_quote q ≡ true → met q t i ≡ here → next ≡ first_met q t (i + 1) k → unless_inside here i next ≡ record { place = e; found = closing } → e < m → m ≤ length t → i + places ≡ m
    → ((places' : ℕ) → next ≡ record { place = e; found = closing } → (i + 1) + places' ≡ m → first_met q (take m t) (i + 1) places' ≡ record { place = e; found = closing }) → Closes q t i (suc k) e → first_met q (take m t) i places ≡ record { place = e; found = closing }
unfolding first_met
search_step q t i k e m zero here next quote is next_is h past within sum go c = absurd (let f = c.from in omega arith)
search_step q t i k e m (suc places) inside next quote is next_is h past within sum go c =
    let n = closes-at q t (i + 1) k e (sym next_is ∙ h) in
    let f = n.from in
    ap (λ x. unless_inside x i (first_met q (take m t) (i + 1) places)) (inside_take q t i e m (begins_escape t i) refl (omega arith) past within (not_true (is_escaped t e) (closes q t e c.here).1) is)
    ∙ go places h (omega arith)
search_step q t i k e m (suc places) closing next quote is next_is h past within sum go c =
    ap (λ x. unless_inside x i (first_met q (take m t) (i + 1) places)) (closing_take q t i m quote (omega arith) is) ∙ h
search_step q t i k e m (suc places) (spoiled x) next quote is next_is h past within sum go c = absurd (let f = ap (λ x. x.found) h in cc)

search_take : (q : ℕ) (t : List ℕ) (i k e m places : ℕ) → is_quote q ≡ true → first_met q t i k ≡ record { place = e; found = closing } → e < m → m ≤ length t → i + places ≡ m → first_met q (take m t) i places ≡ record { place = e; found = closing }
unfolding first_met
search_take q t i zero e m places quote h past within sum = absurd (let f = ap (λ x. x.found) h in cc)
search_take q t i (suc k) e m places quote h past within sum =
    search_step q t i k e m places (met q t i) (first_met q t (i + 1) k) quote refl refl h past within sum (λ j g s. search_take q t (i + 1) k e m j quote g past within s)
    (closing_at q t i k e (met q t i) (first_met q t (i + 1) k) refl h (λ g. closes-at q t (i + 1) k e g))

-- a literal that closes

abbrev pub ends_closed : ℕ → Ending
ends_closed e = record { place = e; found = closing }

start_take : (t : List ℕ) (m : ℕ) → 2 ≤ m → contents_start (take m t) ≡ contents_start t
unfolding contents_start starts_wide starts_with_quote
start_take t zero h = absurd (omega arith)
start_take t (suc zero) h = absurd (omega arith)
start_take [] (suc (suc m)) h = refl
start_take (b ∷ []) (suc (suc m)) h = refl
start_take (b ∷ c ∷ t) (suc (suc m)) h = refl

quote_take : (t : List ℕ) (m : ℕ) → 2 ≤ m → quote_of (take m t) ≡ quote_of t
unfolding quote_of contents_start starts_wide starts_with_quote
quote_take t zero h = absurd (omega arith)
quote_take t (suc zero) h = absurd (omega arith)
quote_take [] (suc (suc m)) h = refl
quote_take (b ∷ []) (suc (suc m)) h = refl
quote_take (b ∷ c ∷ t) (suc (suc m)) h = by (nat_eq b 76 && is_quote c) where
  by : (w : Bool) → get_or (b ∷ c ∷ take m t) (cond w 2 1 - 1) 0 ≡ get_or (b ∷ c ∷ t) (cond w 2 1 - 1) 0
  by true = refl
  by false = refl

start_some : (w : Bool) → 1 ≤ cond w 2 1
start_some true = omega arith
start_some false = omega arith

pub contents-start : (t : List ℕ) → 1 ≤ contents_start t
unfolding contents_start
contents-start t = start_some (starts_wide t)

wide_quote : (b c : ℕ) (t : List ℕ) (w : Bool) → (nat_eq b 76 && is_quote c) ≡ w → (is_quote b || w) ≡ true → is_quote (get_or (b ∷ c ∷ t) (cond w 2 1 - 1) 0) ≡ true
wide_quote b c t true e h = (and_true (nat_eq b 76) (is_quote c) e).1
wide_quote b c t false e h = or_first (is_quote b) h where
  or_first : (a : Bool) → (a || false) ≡ true → a ≡ true
  or_first true h = refl
  or_first false h = h

pub quote-is : (t : List ℕ) → starts_literal t ≡ true → is_quote (quote_of t) ≡ true
unfolding starts_literal quote_of contents_start starts_wide starts_with_quote
quote-is [] h = absurd cc
quote-is (b ∷ []) h = by (nat_eq b 76) h where
  by : (w : Bool) → (is_quote b || (w && false)) ≡ true → is_quote (get_or (b ∷ []) (cond (w && false) 2 1 - 1) 0) ≡ true
  by true h = only (is_quote b) h where
    only : (a : Bool) → (a || false) ≡ true → a ≡ true
    only true h = refl
    only false h = h
  by false h = only (is_quote b) h where
    only : (a : Bool) → (a || false) ≡ true → a ≡ true
    only true h = refl
    only false h = h
quote-is (b ∷ c ∷ t) h = wide_quote b c t (nat_eq b 76 && is_quote c) refl h

pub record ClosesLiteral (t : List ℕ) (e : ℕ) : Type 0 where
  pub literal : starts_literal t ≡ true
  pub within : e < length t
  pub ends : ending t ≡ ends_closed e

from_start : (t : List ℕ) (e : ℕ) → ending t ≡ ends_closed e → contents_start t ≤ e
unfolding ending
from_start t e h = let c = closes-at (quote_of t) t (contents_start t) (length t - contents_start t) e h in c.from

ending_take : (t : List ℕ) (e m : ℕ) → ClosesLiteral t e → e < m → m ≤ length t → ending (take m t) ≡ ends_closed e
unfolding ending
ending_take t e m c past within =
    let from : contents_start t ≤ e = from_start t e c.ends in
    let two : 2 ≤ m = omega (arith, from, contents-start t) in
    let l : length (take m t) ≡ m = length-take-le m t within in
    ap (λ q. first_met q (take m t) (contents_start (take m t)) (length (take m t) - contents_start (take m t))) (quote_take t m two)
    ∙ ap (λ s. first_met (quote_of t) (take m t) s (length (take m t) - s)) (start_take t m two)
    ∙ search_take (quote_of t) t (contents_start t) (length t - contents_start t) e m (length (take m t) - contents_start t) (quote-is t c.literal) c.ends past within (omega (arith, l, from))

literal_closed : (d : Dialect) (t : List ℕ) (e m : ℕ) → ClosesLiteral t e → e < m → m ≤ length t
    → spelling_of d (take m t) ≡ cond (nat_eq (e + 1) m) (Some (closed_spelling (quote_of t) (nat_eq e (contents_start t)))) None
unfolding literal_spelling
literal_closed d t e m c past within =
    let from : contents_start t ≤ e = from_start t e c.ends in
    let two : 2 ≤ m = omega (arith, from, contents-start t) in
    let u = take m t in
    spelling-literal d u (literal_take t m two ∙ c.literal)
    ∙ ap (λ x. ended_spelling u x.place x.found) (ending_take t e m c past within)
    ∙ ap (λ n. cond (nat_eq (e + 1) n) (Some (closed_spelling (quote_of u) (nat_eq e (contents_start u)))) None) (length-take-le m t within)
    ∙ ap (λ q. cond (nat_eq (e + 1) m) (Some (closed_spelling q (nat_eq e (contents_start u)))) None) (quote_take t m two)
    ∙ ap (λ s. cond (nat_eq (e + 1) m) (Some (closed_spelling (quote_of t) (nat_eq e s))) None) (start_take t m two)

pub spelled-literal : (d : Dialect) (t : List ℕ) (e : ℕ) → ClosesLiteral t e → spelling_of d (take (e + 1) t) ≡ Some (closed_spelling (quote_of t) (nat_eq e (contents_start t)))
spelled-literal d t e c =
    literal_closed d t e (e + 1) c (omega arith) (let w = c.within in omega arith)
    ∙ ap (λ b. cond b (Some (closed_spelling (quote_of t) (nat_eq e (contents_start t)))) None) (same_number (e + 1) (e + 1) refl)

pub literal-longest : (d : Dialect) (t : List ℕ) (e : ℕ) → ClosesLiteral t e → IsLongest d t (e + 1)
literal-longest d t e c = record {
  some = omega arith;
  within = let w = c.within in omega arith;
  spells = ap is_some (spelled-literal d t e c);
  longer = λ m past within.
      ap is_some (literal_closed d t e m c (omega arith) within
      ∙ ap (λ b. cond b (Some (closed_spelling (quote_of t) (nat_eq e (contents_start t)))) None) (other_number (e + 1) m past));
}

-- a literal that is spoiled
pub spoiled-literal : (d : Dialect) (t : List ℕ) (place : ℕ) (c : LexCause) → starts_literal t ≡ true → ending t ≡ record { place = place; found = spoiled c } → spelling_of d t ≡ Some (spoiled_spelling place c)
unfolding literal_spelling
spoiled-literal d t place c l e = spelling-literal d t l ∙ ap (λ x. ended_spelling t x.place x.found) e

pub closing-byte : (q : ℕ) (t : List ℕ) (i : ℕ) → met q t i ≡ closing → get_or t i 0 ≡ q
closing-byte q t i e = eqb-true (get_or t i 0) q (closes q t i e).0

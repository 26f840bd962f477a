-- What is known at a reached place, and how it goes on.
use Rattle.std.proofs.Common.{◌≡◌, refl, sym, ap, subst, ◌∙◌, ℕ, ◌+◌, ◌-◌, ◌<◌, ◌≤◌, Bool, true, false, List, [], ◌∷◌, ◌++◌, length, take, drop, get_or, nat_eq, ◌&&◌, ◌||◌, cond, Some, None, is_some, unwrap_or, position, bytes_eq, Result, Ok, Err, nat_lt, arith}
use Rattle.std.specs.List.{position_or_len}
use Rattle.std.proofs.lemmas.Grind.{common_steps}
use Rattle.std.proofs.lemmas.Bool.Decides.{nat_tests}
use Rattle.std.proofs.lemmas.List.{append-nil, length-append, length-drop, length-take-le}
use Rattle.std.proofs.lemmas.List.Folds.{prefix_len-append}
use Rattle.c_tokens.specs.declared.token.Token.{Token}
use Rattle.c_tokens.specs.declared.token.Shape.{Shape}
use Rattle.c_tokens.specs.declared.token.Shape.TheVariants as shape
use Rattle.c_tokens.specs.declared.lexical.Dialect.{Dialect}
use Rattle.c_tokens.specs.declared.lexical.LexCause.{LexCause}
use Rattle.c_tokens.specs.declared.lexical.LexCause.TheVariants as cause
use Rattle.c_tokens.specs.Bytes.{is_white_space}
use Rattle.c_tokens.specs.Skipped.{stands_first}
use Rattle.c_tokens.specs.Spelling.{Spelling, Sort, space, marker, token, refused, keyword, punctuator, mark, word, integer, floating, character, string}
use Rattle.c_tokens.specs.Tokens.{longest, Piece, meaning, pieces, pieces_from, number_in, shape_of, token_at, Bad, bad, before, adds, tokens_in, tokens_of, with_text, gains, gained_in, gained, Keeps}
use Rattle.c_lexer.specs.declared.piece.Piece.{Piece as Described}
use Rattle.c_lexer.specs.Meanings.{spelling_by}
use Rattle.c_lexer.specs.Pieces.{Describes}
use Rattle.c_lexer.proofs.Heads.{part}
use Rattle.c_tokens.proofs.Texts.{position-with_text, length-with_text}
use Rattle.c_tokens.proofs.Steps.{IsRead, piece, tokens-step, gained-step}
use Rattle.c_tokens.proofs.Ends.{first-nothing, first-after, refused-near}
use Rattle.c_tokens.proofs.Longest.{longest-le}

-- tables that grow

pub keeps_all : (names : List (List ℕ)) → Keeps names names
keeps_all names = record { more = []; same = sym (append-nil names) }

append_twice : (a b c : List (List ℕ)) → (a ++ b) ++ c ≡ a ++ (b ++ c)
append_twice a b c = grind (arith, common_steps)

pub keeps_on : (a b c : List (List ℕ)) → Keeps a b → Keeps b c → Keeps a c
keeps_on a b c h k = record { more = h.more ++ k.more; same = k.same ∙ ap (λ x. x ++ k.more) h.same ∙ append_twice a h.more k.more }

with_by : (names : List (List ℕ)) (text : List ℕ) (b : Bool) → Keeps names (cond b names (names ++ text ∷ []))
with_by names text true = keeps_all names
with_by names text false = record { more = text ∷ []; same = refl }

pub keeps_with : (names : List (List ℕ)) (text : List ℕ) → Keeps names (with_text names text)
unfolding with_text
keeps_with names text = with_by names text (is_some (position (bytes_eq text) names))

pub keeps_gains : (names : List (List ℕ)) (text : List ℕ) (s : Spelling) → Keeps names (gains names text s)
keeps_gains names text space = keeps_all names
keeps_gains names text marker = keeps_all names
keeps_gains names text (refused offset c) = keeps_all names
keeps_gains names text (token (keyword k)) = keeps_all names
keeps_gains names text (token (punctuator p)) = keeps_all names
keeps_gains names text (token (mark m)) = keeps_all names
keeps_gains names text (token word) = keeps_with names text
keeps_gains names text (token integer) = keeps_with names text
keeps_gains names text (token floating) = keeps_with names text
keeps_gains names text (token character) = keeps_with names text
keeps_gains names text (token string) = keeps_with names text

pub length_gains : (names : List (List ℕ)) (text : List ℕ) (s : Spelling) → length (gains names text s) ≤ length names + 1
length_gains names text space = omega arith
length_gains names text marker = omega arith
length_gains names text (refused offset c) = omega arith
length_gains names text (token (keyword k)) = omega arith
length_gains names text (token (punctuator p)) = omega arith
length_gains names text (token (mark m)) = omega arith
length_gains names text (token word) = length-with_text names text
length_gains names text (token integer) = length-with_text names text
length_gains names text (token floating) = length-with_text names text
length_gains names text (token character) = length-with_text names text
length_gains names text (token string) = length-with_text names text

-- a text that a table has keeps its place

inside : (b : Bool) (k i : ℕ) → cond b (Some k) None ≡ Some i → (b ≡ true) × (k ≡ i)
inside true k i e = (refl, cc)
inside false k i e = absurd cc

below : (a b : ℕ) → nat_lt a b ≡ true → a < b
below a b e = grind (arith, nat_tests)

is_below : (a b : ℕ) → a < b → nat_lt a b ≡ true
is_below a b h = grind (arith, nat_tests)

place_stays : {A : Type 0} (p : A → Bool) (xs ys : List A) → position_or_len p xs < length xs → position_or_len p (xs ++ ys) ≡ position_or_len p xs
place_stays p xs ys within = grind (arith, common_steps, nat_tests, prefix_len-append)

found_some : {A : Type 0} (p : A → Bool) (xs ys : List A) (i : ℕ) → position p xs ≡ Some i → position p (xs ++ ys) ≡ Some i
found_some p xs ys i e =
    let k = position_or_len p xs in
    let h = inside (nat_lt k (length xs)) k i e in
    let within : k < length xs = below k (length xs) h.0 in
    let further : k < length (xs ++ ys) = omega (arith, length-append xs ys) in
    ap (λ j. cond (nat_lt j (length (xs ++ ys))) (Some j) None) (place_stays p xs ys within) ∙ ap (λ b. cond b (Some k) None) (is_below k (length (xs ++ ys)) further) ∙ ap Some h.1

pub number_some : (names : List (List ℕ)) (text : List ℕ) (i : ℕ) → position (bytes_eq text) names ≡ Some i → number_in names text ≡ i
unfolding number_in
number_some names text i e = ap (λ o. unwrap_or o 0) e

number_kept : (names final : List (List ℕ)) (text : List ℕ) (i : ℕ) → Keeps names final → position (bytes_eq text) names ≡ Some i → number_in final text ≡ number_in names text
number_kept names final text i k e =
    number_some final text i (ap (position (bytes_eq text)) k.same ∙ found_some (bytes_eq text) names k.more i e) ∙ sym (number_some names text i e)

number_stays : (names final : List (List ℕ)) (text : List ℕ) → Keeps (with_text names text) final → number_in final text ≡ number_in (with_text names text) text
number_stays names final text k = number_kept (with_text names text) final text (position_or_len (bytes_eq text) names) k (position-with_text names text)

shape_stays : (names final : List (List ℕ)) (text : List ℕ) (s : Sort) → Keeps (gains names text (token s)) final → shape_of final text s ≡ shape_of (gains names text (token s)) text s
shape_stays names final text (keyword k) h = refl
shape_stays names final text (punctuator p) h = refl
shape_stays names final text (mark m) h = refl
shape_stays names final text word h = ap (λ n. shape.Word (record { 0 = n })) (number_stays names final text h)
shape_stays names final text integer h = ap (λ n. shape.Int (record { 0 = n })) (number_stays names final text h)
shape_stays names final text floating h = ap (λ n. shape.Float (record { 0 = n })) (number_stays names final text h)
shape_stays names final text character h = ap (λ n. shape.Char (record { 0 = n })) (number_stays names final text h)
shape_stays names final text string h = ap (λ n. shape.Str (record { 0 = n })) (number_stays names final text h)

-- what was read so far

abbrev pub prepend : List Token → Result (List Token) Bad → Result (List Token) Bad
prepend ts (Ok others) = Ok (ts ++ others)
prepend ts (Err e) = Err e

abbrev pub tokens_at : Dialect → List (List ℕ) → List ℕ → ℕ → Result (List Token) Bad
tokens_at d names bytes at = tokens_in d names bytes (pieces_from d at 0 (drop at bytes))

pub record Read (d : Dialect) (bytes : List ℕ) (old : List (List ℕ)) (at : ℕ) (first : Bool) (tokens : List Token) (names : List (List ℕ)) : Type 0 where
  pub within : at ≤ length bytes
  pub few : length names ≤ length old + at
  pub kept : Keeps old names
  pub first_is : at < length bytes → first ≡ stands_first bytes at
  pub tokens_so_far : (final : List (List ℕ)) → Keeps names final → tokens_of d final bytes ≡ prepend tokens (tokens_at d final bytes at)
  pub gained_so_far : gained d old bytes ≡ gained_in d names (pieces_from d at 0 (drop at bytes))

prepend_none : (r : Result (List Token) Bad) → r ≡ prepend [] r
prepend_none (Ok ts) = refl
prepend_none (Err e) = refl

pub read_nothing : (d : Dialect) (bytes : List ℕ) (old : List (List ℕ)) → Read d bytes old 0 true [] old
unfolding tokens_of gained pieces
read_nothing d bytes old = record {
  within = omega arith;
  few = omega arith;
  kept = keeps_all old;
  first_is = λ some. sym (first-nothing bytes);
  tokens_so_far = λ final k. prepend_none (tokens_at d final bytes 0);
  gained_so_far = refl;
}

push_append : (ts : List Token) (t : Token) (others : List Token) → (ts ++ t ∷ []) ++ others ≡ ts ++ t ∷ others
push_append ts t others = grind (arith, common_steps)

prepend_before : (ts : List Token) (t : Token) (r : Result (List Token) Bad) → prepend ts (before t r) ≡ prepend (ts ++ t ∷ []) r
prepend_before ts t (Ok others) = ap (λ l. Ok l) (sym (push_append ts t others))
prepend_before ts t (Err e) = refl

drop_further : (bytes : List ℕ) (at n : ℕ) → drop n (drop at bytes) ≡ drop (at + n) bytes
drop_further bytes at n = grind (arith, common_steps)

-- a spelling that stands at a place, as the program describes it
pub record Stands (d : Dialect) (bytes : List ℕ) (at n : ℕ) (s : Spelling) : Type 0 where
  pub here : at < length bytes
  pub some : 0 < n
  pub longest_is : longest d (drop at bytes) ≡ n
  pub means : meaning d (take n (drop at bytes)) ≡ s

pub stands_within : (d : Dialect) (bytes : List ℕ) (at n : ℕ) (s : Spelling) → Stands d bytes at n s → at + n ≤ length bytes
stands_within d bytes at n s h = let here = h.here in omega (arith, h.longest_is, longest-le d (drop at bytes), length-drop at bytes)

inside_rest : (d : Dialect) (bytes : List ℕ) (at n : ℕ) (s : Spelling) → Stands d bytes at n s → n ≤ length (drop at bytes)
inside_rest d bytes at n s h = omega (arith, h.longest_is, longest-le d (drop at bytes))

step_tokens : (d : Dialect) (bytes : List ℕ) (at n : ℕ) (s : Spelling) → Stands d bytes at n s → (final : List (List ℕ)) → tokens_at d final bytes at ≡ adds final bytes (piece at (take n (drop at bytes))) s (tokens_at d final bytes (at + n))
step_tokens d bytes at n s h final =
    let rest = drop at bytes in
    tokens-step d final bytes at rest n h.longest_is h.some (inside_rest d bytes at n s h)
    ∙ ap (λ m. adds final bytes (piece at (take n rest)) m (tokens_in d final bytes (pieces_from d (at + n) 0 (drop n rest)))) h.means
    ∙ ap (λ r. adds final bytes (piece at (take n rest)) s (tokens_in d final bytes (pieces_from d (at + n) 0 r))) (drop_further bytes at n)

step_gained : (d : Dialect) (bytes : List ℕ) (at n : ℕ) (s : Spelling) → Stands d bytes at n s → IsRead s → (names : List (List ℕ))
    → gained_in d names (pieces_from d at 0 (drop at bytes)) ≡ gained_in d (gains names (take n (drop at bytes)) s) (pieces_from d (at + n) 0 (drop (at + n) bytes))
step_gained d bytes at n s h read names =
    let rest = drop at bytes in
    gained-step d names at rest n h.longest_is h.some (inside_rest d bytes at n s h) (subst IsRead (sym h.means) read)
    ∙ ap (λ m. gained_in d (gains names (take n rest) m) (pieces_from d (at + n) 0 (drop n rest))) h.means
    ∙ ap (λ r. gained_in d (gains names (take n rest) s) (pieces_from d (at + n) 0 r)) (drop_further bytes at n)

-- what the program keeps about the line
abbrev pub Next : List ℕ → ℕ → Bool → Bool → Type 0
Next bytes end first next = next ≡ (nat_eq (get_or bytes (end - 1) 0) 10 || (is_white_space (get_or bytes (end - 1) 0) && first))

next_first : (d : Dialect) (bytes : List ℕ) (at n : ℕ) (s : Spelling) (first next : Bool) → Stands d bytes at n s → IsRead s → first ≡ stands_first bytes at → Next bytes (at + n) first next → at + n < length bytes → next ≡ stands_first bytes (at + n)
next_first d bytes at n s first next h read f e more =
    e ∙ ap (λ b. nat_eq (get_or bytes (at + n - 1) 0) 10 || (is_white_space (get_or bytes (at + n - 1) 0) && b)) f
    ∙ sym (first-after d bytes at n s h.some h.longest_is h.means read more)

read_on : (d : Dialect) (bytes : List ℕ) (old : List (List ℕ)) (at n : ℕ) (s : Spelling) (first next : Bool) (ts : List Token) (names : List (List ℕ)) → Read d bytes old at first ts names → Stands d bytes at n s → IsRead s → gains names (take n (drop at bytes)) s ≡ names → Next bytes (at + n) first next
    → ((final : List (List ℕ)) → adds final bytes (piece at (take n (drop at bytes))) s (tokens_at d final bytes (at + n)) ≡ tokens_at d final bytes (at + n)) → Read d bytes old (at + n) next ts names
read_on d bytes old at n s first next ts names r h read same e nothing = record {
  within = stands_within d bytes at n s h;
  few = let few = r.few in omega arith;
  kept = r.kept;
  first_is = λ more. next_first d bytes at n s first next h read (r.first_is h.here) e more;
  tokens_so_far = λ final k. r.tokens_so_far final k ∙ ap (prepend ts) (step_tokens d bytes at n s h final ∙ nothing final);
  gained_so_far = r.gained_so_far ∙ step_gained d bytes at n s h read names ∙ ap (λ x. gained_in d x (pieces_from d (at + n) 0 (drop (at + n) bytes))) same;
}

pub read_space : (d : Dialect) (bytes : List ℕ) (old : List (List ℕ)) (at n : ℕ) (first next : Bool) (ts : List Token) (names : List (List ℕ)) → Read d bytes old at first ts names → Stands d bytes at n space → Next bytes (at + n) first next → Read d bytes old (at + n) next ts names
read_space d bytes old at n first next ts names r h e = read_on d bytes old at n space first next ts names r h tt refl e (λ final. refl)

pub read_marker : (d : Dialect) (bytes : List ℕ) (old : List (List ℕ)) (at n : ℕ) (first next : Bool) (ts : List Token) (names : List (List ℕ)) → Read d bytes old at first ts names → Stands d bytes at n marker → first ≡ true → Next bytes (at + n) first next → Read d bytes old (at + n) next ts names
read_marker d bytes old at n first next ts names r h is e =
    read_on d bytes old at n marker first next ts names r h tt refl e
    (λ final. ap (λ b. cond b (tokens_at d final bytes (at + n)) (bad at cause.Directive)) (sym (r.first_is h.here) ∙ is))

same_token : (a b : Shape) (start end end' : ℕ) → a ≡ b → end ≡ end' → token_at a start end ≡ token_at b start end'
same_token a b start end end' e f = ap (λ s. token_at s start end) e ∙ ap (λ n. token_at b start n) f

pub read_token : (d : Dialect) (bytes : List ℕ) (old : List (List ℕ)) (at n : ℕ) (first next : Bool) (ts : List Token) (names new : List (List ℕ)) (sort : Sort) (shape : Shape) → Read d bytes old at first ts names → Stands d bytes at n (token sort) → Next bytes (at + n) first next
    → new ≡ gains names (take n (drop at bytes)) (token sort) → shape ≡ shape_of new (take n (drop at bytes)) sort → Read d bytes old (at + n) next (ts ++ token_at shape at (at + n) ∷ []) new
read_token d bytes old at n first next ts names new sort shape r h e gained_is shape_is =
    let rest = drop at bytes in
    let text = take n rest in
    let s : Spelling = token sort in
    let grown : Keeps names new = subst (Keeps names) (sym gained_is) (keeps_gains names text s) in
    record {
      within = stands_within d bytes at n s h;
      few = let few = r.few in let some = h.some in omega (arith, ap length gained_is, length_gains names text s);
      kept = keeps_on old names new r.kept grown;
      first_is = λ more. next_first d bytes at n s first next h tt (r.first_is h.here) e more;
      tokens_so_far = λ final k.
          r.tokens_so_far final (keeps_on names new final grown k)
          ∙ ap (prepend ts) (step_tokens d bytes at n s h final)
          ∙ prepend_before ts (token_at (shape_of final text sort) at (at + length text)) (tokens_at d final bytes (at + n))
          ∙ ap (λ t. prepend (ts ++ t ∷ []) (tokens_at d final bytes (at + n)))
          (same_token (shape_of final text sort) shape at (at + length text) (at + n)
          (shape_stays names final text sort (subst (λ x. Keeps x final) gained_is k) ∙ ap (λ x. shape_of x text sort) (sym gained_is) ∙ sym shape_is)
          (ap (λ k. at + k) (length-take-le n rest (inside_rest d bytes at n s h))));
      gained_so_far = r.gained_so_far ∙ step_gained d bytes at n s h tt names ∙ ap (λ x. gained_in d x (pieces_from d (at + n) 0 (drop (at + n) bytes))) (sym gained_is);
    }

-- whether, where and why a text is refused does not depend on the table

refused_before : (t t' : Token) (e : Bad) (r r' : Result (List Token) Bad) → before t r ≡ Err e → (r ≡ Err e → r' ≡ Err e) → before t' r' ≡ Err e
refused_before t t' e (Ok others) r' h go = absurd cc
refused_before t t' e (Err a) r' h go = ap (before t') (go h)

refused_marker : (first : Bool) (at : ℕ) (e : Bad) (r r' : Result (List Token) Bad) → cond first r (bad at cause.Directive) ≡ Err e → (r ≡ Err e → r' ≡ Err e) → cond first r' (bad at cause.Directive) ≡ Err e
refused_marker true at e r r' h go = go h
refused_marker false at e r r' h go = h

refused_here : (names other : List (List ℕ)) (bytes : List ℕ) (p : Piece) (m : Spelling) (e : Bad) (r r' : Result (List Token) Bad) → adds names bytes p m r ≡ Err e → (r ≡ Err e → r' ≡ Err e) → adds other bytes p m r' ≡ Err e
refused_here names other bytes p space e r r' h go = go h
refused_here names other bytes p marker e r r' h go = refused_marker (stands_first bytes p.start) p.start e r r' h go
refused_here names other bytes p (refused offset c) e r r' h go = h
refused_here names other bytes p (token sort) e r r' h go =
    refused_before (token_at (shape_of names p.text sort) p.start (p.start + length p.text)) (token_at (shape_of other p.text sort) p.start (p.start + length p.text)) e r r' h go

refused_alike : (d : Dialect) (names other : List (List ℕ)) (bytes : List ℕ) (e : Bad) (ps : List Piece) → tokens_in d names bytes ps ≡ Err e → tokens_in d other bytes ps ≡ Err e
unfolding tokens_in
refused_alike d names other bytes e [] h = absurd cc
refused_alike d names other bytes e (p ∷ ps) h = refused_here names other bytes p (meaning d p.text) e (tokens_in d names bytes ps) (tokens_in d other bytes ps) h (refused_alike d names other bytes e ps)

read_spoiled : (d : Dialect) (bytes : List ℕ) (old : List (List ℕ)) (at : ℕ) (first : Bool) (ts : List Token) (names : List (List ℕ)) (e : Bad) → Read d bytes old at first ts names → tokens_at d names bytes at ≡ Err e → (other : List (List ℕ)) → tokens_of d other bytes ≡ Err e
unfolding tokens_of
read_spoiled d bytes old at first ts names e r h other = refused_alike d names other bytes e (pieces d bytes) (r.tokens_so_far names (keeps_all names) ∙ ap (prepend ts) h)

pub read_refused : (d : Dialect) (bytes : List ℕ) (old : List (List ℕ)) (at n offset : ℕ) (c : LexCause) (first : Bool) (ts : List Token) (names : List (List ℕ)) → Read d bytes old at first ts names → Stands d bytes at n (refused offset c) → (other : List (List ℕ)) → tokens_of d other bytes ≡ bad (at + offset) c
read_refused d bytes old at n offset c first ts names r h = read_spoiled d bytes old at first ts names (record { at = at + offset; cause = c }) r (step_tokens d bytes at n (refused offset c) h names)

pub refused_within : (d : Dialect) (bytes : List ℕ) (at n offset : ℕ) (c : LexCause) → Stands d bytes at n (refused offset c) → at + offset ≤ length bytes + 2
refused_within d bytes at n offset c h =
    omega (arith, stands_within d bytes at n (refused offset c) h, refused-near d (take n (drop at bytes)) offset c h.means, length-take-le n (drop at bytes) (inside_rest d bytes at n (refused offset c) h))

pub read_late : (d : Dialect) (bytes : List ℕ) (old : List (List ℕ)) (at n : ℕ) (first : Bool) (ts : List Token) (names : List (List ℕ)) → Read d bytes old at first ts names → Stands d bytes at n marker → first ≡ false → (other : List (List ℕ)) → tokens_of d other bytes ≡ bad at cause.Directive
read_late d bytes old at n first ts names r h is =
    read_spoiled d bytes old at first ts names (record { at = at; cause = cause.Directive }) r
    (step_tokens d bytes at n marker h names ∙ ap (λ b. cond b (tokens_at d names bytes (at + n)) (bad at cause.Directive)) (sym (r.first_is h.here) ∙ is))

none_left : (bytes : List ℕ) (at : ℕ) → length bytes ≤ at → drop at bytes ≡ []
none_left bytes at past = grind (arith, common_steps)

at_end : (d : Dialect) (names : List (List ℕ)) (bytes : List ℕ) (at : ℕ) → length bytes ≤ at → tokens_at d names bytes at ≡ Ok (token_at shape.End (length bytes) (length bytes) ∷ [])
unfolding tokens_in pieces_from
at_end d names bytes at past = ap (λ r. tokens_in d names bytes (pieces_from d at 0 r)) (none_left bytes at past)

pub read_all : (d : Dialect) (bytes : List ℕ) (old : List (List ℕ)) (at : ℕ) (first : Bool) (ts : List Token) (names : List (List ℕ)) → Read d bytes old at first ts names → length bytes ≤ at → tokens_of d names bytes ≡ Ok (ts ++ token_at shape.End at at ∷ [])
read_all d bytes old at first ts names r past =
    let same : length bytes ≡ at = let within = r.within in omega arith in
    r.tokens_so_far names (keeps_all names) ∙ ap (prepend ts) (at_end d names bytes at past) ∙ ap (λ n. Ok (ts ++ token_at shape.End n n ∷ [])) same

nothing_gained : (d : Dialect) (names : List (List ℕ)) (bytes : List ℕ) (at : ℕ) → length bytes ≤ at → gained_in d names (pieces_from d at 0 (drop at bytes)) ≡ names
unfolding gained_in pieces_from
nothing_gained d names bytes at past = ap (λ r. gained_in d names (pieces_from d at 0 r)) (none_left bytes at past)

pub gained_all : (d : Dialect) (bytes : List ℕ) (old : List (List ℕ)) (at : ℕ) (first : Bool) (ts : List Token) (names : List (List ℕ)) → Read d bytes old at first ts names → length bytes ≤ at → names ≡ gained d old bytes
gained_all d bytes old at first ts names r past = sym (r.gained_so_far ∙ nothing_gained d names bytes at past)

-- from what the program knows of a piece
pub stands_by : (d : Dialect) (bytes : List ℕ) (at : ℕ) (piece : Described) (s : Spelling) → at < length bytes → Describes d (take (length bytes - at) (drop at bytes)) piece → spelling_by piece.meaning ≡ s → Stands d bytes at piece.length s
stands_by d bytes at piece s here p says = record {
  here = here;
  some = p.some;
  longest_is = ap (longest d) (sym (part bytes at)) ∙ sym p.length;
  means = ap (λ t. meaning d (take piece.length t)) (sym (part bytes at)) ∙ sym p.meaning ∙ says;
}

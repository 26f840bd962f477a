-- A text has no more tokens than bytes, and the end of the source after them.
use Rattle.std.proofs.Common.{◌≡◌, subst, ℕ, zero, suc, ◌+◌, ◌-◌, ◌<◌, ◌≤◌, ◌^◌, Bool, true, false, List, [], ◌∷◌, length, take, Result, Ok, Err, arith}
use Rattle.std.specs.Prelude.{if◌then◌else◌}
use Rattle.c_tokens.specs.declared.lexical.Dialect.TheVariants.{C90}
use Rattle.c_tokens.specs.declared.lexical.LexCause.{LexCause}
use Rattle.c_tokens.specs.declared.lexical.LexCause.TheVariants.{Directive}
use Rattle.c_tokens.specs.Skipped.{stands_first}
use Rattle.c_tokens.specs.declared.token.Token.{Token}
use Rattle.c_tokens.specs.Spelling.{Spelling, space, marker, token, refused}
use Rattle.c_tokens.specs.Tokens.{Piece, Bad, bad, meaning, unless_refused, longest, pieces_from, pieces, before, adds, tokens_in, tokens_of, shape_of, token_at as made}

few_unless : (m : Spelling) (ps : List Piece) (n : ℕ) → length ps ≤ n → length (unless_refused m ps) ≤ n
few_unless (refused offset cause) ps n le = omega arith
few_unless space ps n le = le
few_unless marker ps n le = le
few_unless (token sort) ps n le = le

few_pieces : (at inside : ℕ) (bytes : List ℕ) → length (pieces_from C90 at inside bytes) ≤ length bytes
unfolding pieces_from
few_pieces at inside [] = omega arith
few_pieces at (suc inside) (b ∷ rest) = let less : length (pieces_from C90 (at + 1) inside rest) ≤ length rest = few_pieces (at + 1) inside rest in omega arith
few_pieces at zero (b ∷ rest) =
    let text : List ℕ = take (longest C90 (b ∷ rest)) (b ∷ rest) in
    let less : length (unless_refused (meaning C90 text) (pieces_from C90 (at + 1) (length text - 1) rest)) ≤ length rest =
    few_unless (meaning C90 text) (pieces_from C90 (at + 1) (length text - 1) rest) (length rest) (few_pieces (at + 1) (length text - 1) rest) in
    omega arith

-- so many tokens at most
abbrev AtMost : ℕ → Result (List Token) Bad → Type 0
AtMost n (Ok w) = length w ≤ n
AtMost n (Err e) = Unit {0}

most_before : (t : Token) (n : ℕ) (others : Result (List Token) Bad) → AtMost n others → AtMost (n + 1) (before t others)
most_before t n (Ok w) h = omega (arith, h)
most_before t n (Err e) h = tt

most_more : (n : ℕ) (o : Result (List Token) Bad) → AtMost n o → AtMost (n + 1) o
most_more n (Ok w) h = omega (arith, h)
most_more n (Err e) h = tt

most_either : (b : Bool) (n at : ℕ) (cause : LexCause) (o : Result (List Token) Bad) → AtMost n o → AtMost (n + 1) (if b then o else bad at cause)
most_either true n at cause o h = most_more n o h
most_either false n at cause o h = tt

most_adds : (names : List (List ℕ)) (bytes : List ℕ) (p : Piece) (m : Spelling) (n : ℕ) (others : Result (List Token) Bad) → AtMost n others → AtMost (n + 1) (adds names bytes p m others)
most_adds names bytes p space n others h = most_more n others h
most_adds names bytes p marker n others h = most_either (stands_first bytes p.start) n p.start Directive others h
most_adds names bytes p (token sort) n others h = most_before (made (shape_of names p.text sort) p.start (p.start + length p.text)) n others h
most_adds names bytes p (refused offset cause) n others h = tt

most_in : (names : List (List ℕ)) (bytes : List ℕ) (ps : List Piece) → AtMost (length ps + 1) (tokens_in C90 names bytes ps)
unfolding tokens_in
most_in names bytes [] = omega arith
most_in names bytes (p ∷ ps) =
    let e : length ps + 1 + 1 ≡ length (p ∷ ps) + 1 = omega arith in
    subst (λ n. AtMost n (adds names bytes p (meaning C90 p.text) (tokens_in C90 names bytes ps))) e
    (most_adds names bytes p (meaning C90 p.text) (length ps + 1) (tokens_in C90 names bytes ps) (most_in names bytes ps))

-- the tokens of a file within the limit
pub few_tokens : (names : List (List ℕ)) (bytes : List ℕ) (w : List Token) → tokens_of C90 names bytes ≡ Ok w → length bytes ≤ 4194304 → length w < 2 ^ 32 - 1
unfolding tokens_of pieces
few_tokens names bytes w lexed small =
    let h : AtMost (length (pieces_from C90 0 0 bytes) + 1) (Ok w) = subst (AtMost (length (pieces_from C90 0 0 bytes) + 1)) lexed (most_in names bytes (pieces_from C90 0 0 bytes)) in
    omega (arith, h, few_pieces 0 0 bytes)

-- How the pieces, the tokens and the table go on after one spelling.
use Rattle.std.proofs.Common.{◌≡◌, refl, ap, ◌∙◌, ℕ, zero, suc, ◌+◌, ◌-◌, ◌<◌, ◌≤◌, List, [], ◌∷◌, length, take, drop, arith}
use Rattle.std.proofs.lemmas.List.{length-take-le}
use Rattle.c_tokens.specs.declared.lexical.Dialect.{Dialect}
use Rattle.c_tokens.specs.Spelling.{Spelling, space, marker, token, refused}
use Rattle.c_tokens.specs.Tokens.{longest, Piece, meaning, unless_refused, pieces_from, tokens_in, adds, gains, gained_in}

abbrev pub piece : ℕ → List ℕ → Piece
piece at text = record { start = at; text = text }

-- not refused
abbrev pub IsRead : Spelling → Type 0
IsRead (refused offset cause) = ⊥
IsRead _ = Unit {0}

skip : (d : Dialect) (k at : ℕ) (text : List ℕ) → k ≤ length text → pieces_from d at k text ≡ pieces_from d (at + k) 0 (drop k text)
unfolding pieces_from
skip d zero at text within = ap (λ a. pieces_from d a 0 text) (omega arith)
skip d (suc k) at [] within = absurd (omega arith)
skip d (suc k) at (b ∷ rest) within = skip d k (at + 1) rest (omega arith) ∙ ap (λ a. pieces_from d a 0 (drop k rest)) (omega arith)

-- the piece at a place, and those after it
pub pieces-step : (d : Dialect) (at : ℕ) (text : List ℕ) (n : ℕ) → longest d text ≡ n → 0 < n → n ≤ length text → pieces_from d at 0 text ≡ piece at (take n text) ∷ unless_refused (meaning d (take n text)) (pieces_from d (at + n) 0 (drop n text))
unfolding pieces_from
pieces-step d at text zero e some within = absurd (omega arith)
pieces-step d at [] (suc k) e some within = absurd (omega arith)
pieces-step d at (b ∷ rest) (suc k) e some within =
    let n : length (take k rest) ≡ k = length-take-le k rest (omega arith) in
    ap (λ n. piece at (take n (b ∷ rest)) ∷ unless_refused (meaning d (take n (b ∷ rest))) (pieces_from d (at + 1) (length (take n (b ∷ rest)) - 1) rest)) e
    ∙ ap (λ next. piece at (b ∷ take k rest) ∷ unless_refused (meaning d (b ∷ take k rest)) next)
    (ap (λ j. pieces_from d (at + 1) j rest) (omega (arith, n)) ∙ skip d k (at + 1) rest (omega arith) ∙ ap (λ a. pieces_from d a 0 (drop k rest)) (omega arith))

pub adds_past : (d : Dialect) (names : List (List ℕ)) (bytes : List ℕ) (p : Piece) (m : Spelling) (next : List Piece) → adds names bytes p m (tokens_in d names bytes (unless_refused m next)) ≡ adds names bytes p m (tokens_in d names bytes next)
adds_past d names bytes p space next = refl
adds_past d names bytes p marker next = refl
adds_past d names bytes p (token sort) next = refl
adds_past d names bytes p (refused offset c) next = refl

-- the tokens from a place on
pub tokens-step : (d : Dialect) (names : List (List ℕ)) (bytes : List ℕ) (at : ℕ) (text : List ℕ) (n : ℕ) → longest d text ≡ n → 0 < n → n ≤ length text
    → tokens_in d names bytes (pieces_from d at 0 text) ≡ adds names bytes (piece at (take n text)) (meaning d (take n text)) (tokens_in d names bytes (pieces_from d (at + n) 0 (drop n text)))
unfolding tokens_in
tokens-step d names bytes at text n e some within =
    ap (tokens_in d names bytes) (pieces-step d at text n e some within) ∙ adds_past d names bytes (piece at (take n text)) (meaning d (take n text)) (pieces_from d (at + n) 0 (drop n text))

gained_past : (d : Dialect) (names : List (List ℕ)) (m : Spelling) (next : List Piece) → IsRead m → gained_in d names (unless_refused m next) ≡ gained_in d names next
gained_past d names space next read = refl
gained_past d names marker next read = refl
gained_past d names (token sort) next read = refl
gained_past d names (refused offset c) next read = absurd read

-- the table from a place on
pub gained-step : (d : Dialect) (names : List (List ℕ)) (at : ℕ) (text : List ℕ) (n : ℕ) → longest d text ≡ n → 0 < n → n ≤ length text → IsRead (meaning d (take n text))
    → gained_in d names (pieces_from d at 0 text) ≡ gained_in d (gains names (take n text) (meaning d (take n text))) (pieces_from d (at + n) 0 (drop n text))
unfolding gained_in
gained-step d names at text n e some within read =
    ap (gained_in d names) (pieces-step d at text n e some within) ∙ gained_past d (gains names (take n text) (meaning d (take n text))) (meaning d (take n text)) (pieces_from d (at + n) 0 (drop n text)) read

-- Lines and columns, one byte further.
use Rattle.std.proofs.Common.{◌≡◌, ◌≢◌, refl, ap, ◌∙◌, ℕ, ◌+◌, ◌<◌, Bool, true, false, cond, not, List, [], ◌∷◌, ◌++◌, length, take, reverse, get_or, nat_eq, arith}
use Rattle.std.specs.List.{take_while}
use Rattle.std.proofs.lemmas.Grind.{common_steps}
use Rattle.std.proofs.lemmas.Bool.Decides.{nat_tests}
use Rattle.std.proofs.lemmas.List.Sums.{take_while-cons}
use Rattle.c_tokens.specs.Places.{line_at, column_at}

one_more : (text : List ℕ) (i : ℕ) → i < length text → take (i + 1) text ≡ take i text ++ get_or text i 0 ∷ []
one_more text i within = grind (arith, common_steps)

pub line-feed : (text : List ℕ) (i : ℕ) → i < length text → get_or text i 0 ≡ 10 → line_at text (i + 1) ≡ line_at text i + 1
unfolding line_at
line-feed text i within e = grind (arith, common_steps, nat_tests)

pub line-other : (text : List ℕ) (i : ℕ) → i < length text → get_or text i 0 ≢ 10 → line_at text (i + 1) ≡ line_at text i
unfolding line_at
line-other text i within e = grind (arith, common_steps, nat_tests)

reverse_push : (xs : List ℕ) (x : ℕ) → reverse (xs ++ x ∷ []) ≡ x ∷ reverse xs
reverse_push xs x = grind (arith, common_steps)

one_longer : (t : Bool) (b : ℕ) (ys : List ℕ) → length (cond (not t) (b ∷ ys) []) + 1 ≡ cond t 1 (length ys + 1 + 1)
one_longer true b ys = refl
one_longer false b ys = omega arith

column_here : (xs : List ℕ) (b : ℕ) (t : Bool) → nat_eq b 10 ≡ t → length (take_while (λ c. not (nat_eq c 10)) (reverse (xs ++ b ∷ []))) + 1 ≡ cond t 1 (length (take_while (λ c. not (nat_eq c 10)) (reverse xs)) + 1 + 1)
column_here xs b t e =
    let p : ℕ → Bool = λ c. not (nat_eq c 10) in
    ap (λ l. length (take_while p l) + 1) (reverse_push xs b)
    ∙ ap (λ l. length l + 1) (take_while-cons p b (reverse xs))
    ∙ ap (λ c. length (cond (not c) (b ∷ take_while p (reverse xs)) []) + 1) e
    ∙ one_longer t b (take_while p (reverse xs))

pub column-feed : (text : List ℕ) (i : ℕ) → i < length text → get_or text i 0 ≡ 10 → column_at text (i + 1) ≡ 1
unfolding column_at
column-feed text i within e = ap (λ xs. length (take_while (λ c. not (nat_eq c 10)) (reverse xs)) + 1) (one_more text i within) ∙ column_here (take i text) (get_or text i 0) true (grind (arith, nat_tests))

pub column-other : (text : List ℕ) (i : ℕ) → i < length text → get_or text i 0 ≢ 10 → column_at text (i + 1) ≡ column_at text i + 1
unfolding column_at
column-other text i within e = ap (λ xs. length (take_while (λ c. not (nat_eq c 10)) (reverse xs)) + 1) (one_more text i within) ∙ column_here (take i text) (get_or text i 0) false (grind (arith, nat_tests))

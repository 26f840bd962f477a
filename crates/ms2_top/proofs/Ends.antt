-- The line and the column past the end of a text are those of its end.
use Rattle.std.proofs.Common.{◌≡◌, ap, ◌∙◌, ℕ, ◌+◌, List, length, min, reverse, not, nat_eq}
use Rattle.std.specs.Prelude.{count_by, take_while}
use Rattle.std.proofs.lemmas.List.{take_min}
use Rattle.c_tokens.specs.Places.{line_at, column_at}

line_past : (text : List ℕ) (at : ℕ) → line_at text (min at (length text)) ≡ line_at text at
unfolding line_at
line_past text at = ap (λ t. count_by (λ b. nat_eq b 10) t + 1) (take_min at text)

column_past : (text : List ℕ) (at : ℕ) → column_at text (min at (length text)) ≡ column_at text at
unfolding column_at
column_past text at = ap (λ t. length (take_while (λ b. not (nat_eq b 10)) (reverse t)) + 1) (take_min at text)

pub line_within : (text : List ℕ) (at n : ℕ) → n ≡ min at (length text) → line_at text n ≡ line_at text at
line_within text at n e = ap (line_at text) e ∙ line_past text at

pub column_within : (text : List ℕ) (at n : ℕ) → n ≡ min at (length text) → column_at text n ≡ column_at text at
column_within text at n e = ap (column_at text) e ∙ column_past text at

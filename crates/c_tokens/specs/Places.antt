-- Lines and columns, both counted from 1, columns in bytes.
use Rattle.std.specs.Prelude.{ℕ, ◌+◌, List, length, take, reverse, count_by, take_while, not, nat_eq}

-- one more than the line feeds before a place
unfoldable pub line_at : List ℕ → ℕ → ℕ
line_at text at = count_by (λ b. nat_eq b 10) (take at text) + 1

-- one more than the bytes before a place that follow the last line feed there
unfoldable pub column_at : List ℕ → ℕ → ℕ
column_at text at = length (take_while (λ b. not (nat_eq b 10)) (reverse (take at text))) + 1

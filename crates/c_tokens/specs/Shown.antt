-- A table of the program as a table of the definition.
use Rattle.std.specs.Prelude.{List, ℕ, map}
use Rattle.std.specs.Borrow.{Bor}
use Rattle.c_tokens.specs.Spelling.{Table}

unfoldable pub shown : {A : Type 0} → List (Bor (List ℕ) × A) → Table A
shown table = map (λ entry. (entry.0.now, entry.1)) table

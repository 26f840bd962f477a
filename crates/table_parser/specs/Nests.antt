-- A function value that reads what lies in a node.
use Rattle.std.specs.Prelude.{◌≡◌, ℕ, ◌+◌, ◌*◌, ◌≤◌, Bool, true, false, Result, IfOk}
use Rattle.std.specs.declared.alloc.Global.{Global}
use denote.Ref.{MutBor}
use Rattle.c_forms.specs.declared.pieces.Sort.{Sort}
use Rattle.c_reader.specs.declared.refusal.Refusal.{Refusal}
use Rattle.c_reader.specs.Readers.{Reader, Found, Outcome, Input, Reads}
use Rattle.c_reader.specs.Readers as reader
use Rattle.c_syntax.specs.Reading.{Parts, parts_by}
use Rattle.c_syntax.specs.Grammar.{body, in_place}
use Rattle.table_parser.specs.Cursors.{Progress}

-- what a reader of plain C answers with so many levels left
abbrev pub read : {A : Type 0} → ℕ → Reader A → Input → Outcome A
read d r i = reader.read body d r i

-- what reads the parts of a node: one level deeper, or in place
abbrev pub part_of : Bool → ℕ → Parts
part_of is_deeper places = parts_by is_deeper (in_place places)

abbrev pub deeper_by : Bool → ℕ
deeper_by true = 1
deeper_by false = 0

-- It reads each sort with fewer levels left, and with as many where fewer nodes that do not count for the height lie
-- in one another.
pub record Nests (depth places : ℕ) (pre : Global → MutBor Progress → ℕ → ℕ → Sort → ℕ → Type 0)
    (post : Global → MutBor Progress → ℕ → ℕ → Sort → ℕ → Result Found Refusal → MutBor Progress → Type 0) : Type 0 where
  pub callable : (alloc : Global) (old : MutBor Progress) (d p : ℕ) (due : Sort) (least : ℕ) → 10 * d + p ≤ 10 * depth + places → p ≤ 9 → d ≤ 1000
      → pre alloc old d p due least
  pub reads : (alloc : Global) (old new : MutBor Progress) (d p : ℕ) (due : Sort) (least : ℕ) (r : Result Found Refusal) → post alloc old d p due least r new
      → Reads (read d (in_place p due least) old.now.input) r new.now.input
  pub kept : (alloc : Global) (old new : MutBor Progress) (d p : ℕ) (due : Sort) (least : ℕ) (r : Result Found Refusal) → post alloc old d p due least r new
      → new.now.before ≡ old.now.before
  pub low : (alloc : Global) (old new : MutBor Progress) (d p : ℕ) (due : Sort) (least : ℕ) (r : Result Found Refusal) → post alloc old d p due least r new
      → IfOk r (λ x. x.height ≤ d)

-- What goes on with a first part, turn by turn.
use Rattle.std.proofs.Common.{◌≡◌, refl, ap, ℕ, ◌+◌, ◌-◌, ◌<◌, true, false, length, Ok, Err}
use Rattle.c_forms.specs.declared.pieces.Sort.{Sort}
use Rattle.c_reader.specs.declared.refusal.Refusal.{Refusal}
use Rattle.c_reader.specs.declared.refusal.Refusal.TheVariants.{TooDeep}
use Rattle.c_reader.specs.Readers.{Found, Input, Outcome, here, and_then}
use Rattle.c_syntax.specs.Grammar.{Standing, climb, turn, is_tail, tail_by, continued_by}
use Rattle.table_parser.specs.Nests.{read}
use Rattle.table_parser.specs.Turns.{climbed_from}
use Rattle.table_parser.proofs.Loops.{on_by, off_by, broken_by, loop_last, loop_more, loop_out, loop_broken}

abbrev found_of : Outcome Standing → Outcome Found
found_of o = and_then o (λ z j. Ok (z.found, j))

module _ (d : ℕ) (due : Sort) (least start : ℕ) (y : Standing) (i : Input) where
  pub climb_begin : read d (climb due least start y) i ≡ climbed_from d due least start (d + length i.tokens) y i
  unfolding climb climbed_from
  climb_begin = refl

  pub climb_on : (n : ℕ) (z : Standing) (j : Input) → 0 < n → is_tail due least i.at.state y (continued_by due (here i).shape) ≡ true → read d (tail_by due start y (continued_by due (here i).shape)) i ≡ Ok (z, j)
      → climbed_from d due least start n y i ≡ climbed_from d due least start (n - 1) z j
  unfolding climbed_from
  climb_on n z j p e o = ap found_of (loop_more (λ y j. read d (turn due least start y) j) y i n z j p
      (on_by d y i (is_tail due least i.at.state y (continued_by due (here i).shape)) (tail_by due start y (continued_by due (here i).shape)) z j e o))

  pub climb_out : (n : ℕ) (z : Standing) (j : Input) → n ≡ 0 → is_tail due least i.at.state y (continued_by due (here i).shape) ≡ true → read d (tail_by due start y (continued_by due (here i).shape)) i ≡ Ok (z, j)
      → climbed_from d due least start n y i ≡ Err (TooDeep j.at.place)
  unfolding climbed_from
  climb_out n z j p e o = ap found_of (loop_out (λ y j. read d (turn due least start y) j) y i n z j p
      (on_by d y i (is_tail due least i.at.state y (continued_by due (here i).shape)) (tail_by due start y (continued_by due (here i).shape)) z j e o))

  pub climb_over : (n : ℕ) → is_tail due least i.at.state y (continued_by due (here i).shape) ≡ false → climbed_from d due least start n y i ≡ Ok (y.found, i)
  unfolding climbed_from
  climb_over n e = ap found_of (loop_last (λ y j. read d (turn due least start y) j) y i n y i
      (off_by d y i (is_tail due least i.at.state y (continued_by due (here i).shape)) (tail_by due start y (continued_by due (here i).shape)) e))

  pub climb_broken : (n : ℕ) (x : Refusal) → is_tail due least i.at.state y (continued_by due (here i).shape) ≡ true → read d (tail_by due start y (continued_by due (here i).shape)) i ≡ Err x
      → climbed_from d due least start n y i ≡ Err x
  unfolding climbed_from
  climb_broken n x e o = ap found_of (loop_broken (λ y j. read d (turn due least start y) j) y i n x
      (broken_by d y i (is_tail due least i.at.state y (continued_by due (here i).shape)) (tail_by due start y (continued_by due (here i).shape)) x e o))

pub ruleset climbs = (climb_begin, climb_on, climb_out, climb_over)

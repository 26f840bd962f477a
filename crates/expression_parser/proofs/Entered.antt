-- After an opening parenthesis comes a type name, or an expression.
use Rattle.std.proofs.Common.{◌≡◌, refl, ℕ, ◌-◌, ◌<◌, Bool, true, false, Result, arith}
use Rattle.std.specs.declared.alloc.Global.{Global}
use denote.Ref.{MutBor}
use Rattle.c_forms.specs.declared.pieces.Event.TheVariants as event
use Rattle.c_forms.specs.declared.pieces.Sort.{Sort}
use Rattle.c_reader.specs.declared.refusal.Refusal.{Refusal}
use Rattle.c_reader.specs.Readers.{Reader, Found, Input, Change, choose}
use Rattle.c_syntax.specs.Grammar.{Standing, type_or}
use Rattle.expression_parser.specs.Entered.{beyond, is_type_next}
use Rattle.table_parser.specs.Cursors.{Progress}
use Rattle.table_parser.specs.Nests.{Nests, read}

module _ (d : ℕ) (named other : Reader Standing) (i : Input) where
  by_test : (b : Bool) (c : Input) → b ≡ true → read d (choose b named (Change event.Resume other)) c ≡ read d named c
  by_test true c h = refl
  by_test false c h = absurd (cc h)

  by_other : (b : Bool) (c : Input) → b ≡ false → read d (choose b named (Change event.Resume other)) c ≡ read d (Change event.Resume other) c
  by_other true c h = absurd (cc h)
  by_other false c h = refl

  pub named_read : is_type_next i ≡ true → read d (type_or named other) i ≡ read d named (beyond true i)
  unfolding type_or
  named_read h = by_test (is_type_next i) (beyond true i) h

  pub other_read : is_type_next i ≡ false → read d (type_or named other) i ≡ read d other (beyond false i)
  unfolding type_or
  other_read h = by_other (is_type_next i) (beyond true i) h

pub ruleset entries = (named_read, other_read)

-- one level deeper
pub nests_below : (d p : ℕ) (pre : Global → MutBor Progress → ℕ → ℕ → Sort → ℕ → Type 0) (post : Global → MutBor Progress → ℕ → ℕ → Sort → ℕ → Result Found Refusal → MutBor Progress → Type 0) → 0 < d → Nests d p pre post → Nests (d - 1) 9 pre post
nests_below d p pre post some n = record {
  callable = λ alloc old e q due least h k l. n.callable alloc old e q due least (omega (arith, some, h)) k l;
  reads = n.reads;
  kept = n.kept;
  low = n.low;
}

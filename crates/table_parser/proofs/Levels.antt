-- What calls answer.
use Rattle.std.proofs.Common.{◌≡◌, refl, ap, ℕ, zero, suc, ◌-◌, ◌<◌, Err, arith}
use Rattle.c_reader.specs.declared.refusal.Refusal.TheVariants.{TooDeep}
use Rattle.c_reader.specs.Readers.{Input, Rule, below}
use Rattle.c_syntax.specs.Grammar.{body}
use Rattle.table_parser.specs.Nests.{read}

pub no_level : (n : Rule) (d : ℕ) (i : Input) → d ≡ 0 → below body d n i ≡ Err (TooDeep i.at.place)
unfolding below
no_level n zero i e = refl
no_level n (suc d) i e = absurd (omega arith)

pub one_level : (n : Rule) (d : ℕ) (i : Input) → 0 < d → below body d n i ≡ read (d - 1) (body n) i
unfolding below
one_level n zero i e = absurd (omega arith)
one_level n (suc d) i e = ap (λ k. read k (body n) i) (omega arith)

pub ruleset levels = (no_level, one_level)

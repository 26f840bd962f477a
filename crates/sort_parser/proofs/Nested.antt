-- Nodes that do not count for the height, in one another.
use Rattle.std.proofs.Common.{◌≡◌, refl, ap, ℕ, zero, suc, ◌-◌, ◌<◌, arith}
use Rattle.c_forms.specs.declared.pieces.Sort.{Sort}
use Rattle.c_reader.specs.Readers.{Refuse}
use Rattle.c_syntax.specs.Grammar.{at_sort, in_place}

pub no_place : (n : ℕ) (due : Sort) (least : ℕ) → n ≡ 0 → in_place n due least ≡ Refuse
unfolding in_place
no_place zero due least e = refl
no_place (suc n) due least e = absurd (omega arith)

pub one_place : (n : ℕ) (due : Sort) (least : ℕ) → 0 < n → in_place n due least ≡ at_sort (in_place (n - 1)) due least
unfolding in_place
one_place zero due least e = absurd (omega arith)
one_place (suc n) due least e = ap (λ k. at_sort (in_place k) due least) (omega arith)

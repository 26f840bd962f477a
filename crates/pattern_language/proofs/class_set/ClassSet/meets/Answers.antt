use Rattle.std.proofs.Common.{◌≡◌, ◌≢◌, ◌<◌, ◌^◌, arith, sym, ℕ, true, false, not, nat_eq, subst, bit_and, IsTrue, refl, inl, inr}
use Rattle.std.specs.Int.{bit_at}
use Rattle.std.proofs.lemmas.Bool.Decides.{eqb_tells}
use Rattle.c_tokens.specs.ClassNumbers.{class_number}
use Rattle.pattern_language.specs.Classes.{Meets}
use Rattle.pattern_language.proofs.Bits.{common_bit, no_common_bit}
use Rattle.c_tokens.proofs.ClassNumbers.{class_of_number}
use Rattle.pattern_language.proofs.class_set.ClassSet.meets.Goals as goal

common : (a b : ℕ) → a < 2 ^ 128 → IsTrue (not (nat_eq (bit_and a b) 0)) → Meets (λ c. nat_eq (bit_at a (class_number c)) 1) (λ c. nat_eq (bit_at b (class_number c)) 1)
common a b h t =
    let apart : bit_and a b ≢ 0 = λ e. (let zero : nat_eq (bit_and a b) 0 ≡ true = grind (arith, eqb_tells (bit_and a b) 0) in let no : false ≡ true = rw zero at t in absurd (cc no)) in
    let bit = common_bit a b h apart in
    let at = class_of_number bit.0 bit.1 in
    (at.0, rw at.1 bit.2, rw at.1 bit.3)

test : (a b : ℕ) → Meets (λ c. nat_eq (bit_at a (class_number c)) 1) (λ c. nat_eq (bit_at b (class_number c)) 1) → IsTrue (not (nat_eq (bit_and a b) 0))
test a b meets = elim (eqb_tells (bit_and a b) 0) [
  | inl w ↦ absurd (no_common_bit a b (class_number meets.0) w.1 meets.1 meets.2)
  | inr w ↦ subst (λ t. IsTrue (not t)) (sym w.0) refl
]

pub returns : goal.returns
returns c = (common c.args.self.now.bits c.args.other.now.bits (omega arith), test c.args.self.now.bits c.args.other.now.bits)

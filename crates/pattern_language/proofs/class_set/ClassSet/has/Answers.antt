use Rattle.std.proofs.Common.{◌≡◌, arith, sym, ◌∙◌, false, nat_lt}
use Rattle.std.proofs.lemmas.Bool.Decides.{nat_tests}
use Rattle.c_tokens.specs.ClassNumbers.{class_number}
use Rattle.pattern_language.proofs.Bits.{above}
use Rattle.pattern_language.proofs.class_set.ClassSet.has.Goals as goal

pub returns-else-number-lt128 : goal.returns-else-number-lt128
returns-else-number-lt128 c =
    let few : nat_lt c.number-number.result 128 ≡ false = grind (arith, nat_tests) in
    few ∙ sym (above c.args.self.now.bits (class_number c.args.class) (omega arith) (omega arith))

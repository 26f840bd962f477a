use Rattle.c_tokens.specs.ClassNumbers.{class_number}
use Rattle.pattern_language.proofs.Bits.{bit_or_has}
use Rattle.pattern_language.proofs.class_set.ClassSet.union.Goals as goal

pub returns : goal.returns
returns c = λ class. bit_or_has c.args.self.bits c.args.other.bits (class_number class)

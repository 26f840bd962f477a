use Rattle.std.proofs.Common.{◌∙◌, nat_eq}
use Rattle.std.specs.Int.{bit_at}
use Rattle.c_tokens.specs.ClassNumbers.{class_number}
use Rattle.pattern_language.proofs.Bits.{bit_set_has}
use Rattle.pattern_language.proofs.SetLemmas.{or_comm}
use Rattle.pattern_language.proofs.class_set.ClassSet.with.Goals as goal

pub returns : goal.returns
returns c = λ class. rw c.number.ensures
    (bit_set_has c.args.self.bits (class_number c.args.added) (class_number class) c.requires
    ∙ or_comm (nat_eq (class_number c.args.added) (class_number class)) (nat_eq (bit_at c.args.self.bits (class_number class)) 1))

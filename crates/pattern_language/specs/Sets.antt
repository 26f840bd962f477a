-- What a set of classes holds.
use Rattle.std.specs.Prelude.{nat_eq}
use Rattle.std.specs.Int.{bit_at}
use Rattle.pattern_language.specs.declared.class_set.ClassSet.{ClassSet}
use Rattle.c_tokens.specs.ClassNumbers.{class_number}
use Rattle.pattern_language.specs.Classes.{Classes}

-- bit n of the set is for the class of number n
abbrev pub has : ClassSet → Classes
has set c = nat_eq (bit_at set.bits (class_number c)) 1

-- Where the bodies of repetitions and options stand.
use Rattle.std.proofs.Common.{◌≡◌}
use Rattle.std.proofs.Math.Path.{fun_ext}
use Rattle.c_tokens.specs.declared.class.Class.{Class}
use Rattle.pattern_language.specs.Classes.{Classes}

-- Two sets that hold the same classes are one.
pub same_classes : (a b : Classes) → ((c : Class) → a c ≡ b c) → a ≡ b
same_classes a b h = fun_ext h

pub ruleset insides = (same_classes)

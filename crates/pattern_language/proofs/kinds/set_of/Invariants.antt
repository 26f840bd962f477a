use Rattle.std.proofs.Common.{◌≡◌, take}
use Rattle.c_tokens.specs.declared.class.Class.{Class}
use Rattle.pattern_language.specs.Sets.{has}
use Rattle.pattern_language.specs.Classes.{one_of}
use Rattle.pattern_language.proofs.kinds.set_of.Given as goal

abbrev pub invariant-loop-class : goal.invariant-loop-class
invariant-loop-class l = (class : Class) → has l.set class ≡ one_of (take l.class-index l.classes) class

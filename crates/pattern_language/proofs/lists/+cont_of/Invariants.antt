use Rattle.std.proofs.Common.{◌≡◌, drop, ◌||◌, ◌&&◌}
use Rattle.c_tokens.specs.declared.class.Class.{Class}
use Rattle.pattern_language.specs.Sets.{has}
use Rattle.pattern_language.specs.Patterns.{pattern_of, can_be_empty, cont_of}
use Rattle.pattern_language.proofs.lists.+cont_of.Given as goal

abbrev pub invariant-loop-element : goal.invariant-loop-element
invariant-loop-element l = (class : Class) → ((can_be_empty (pattern_of (drop l.element-index l.pattern)) && has l.set class) || cont_of (pattern_of (drop l.element-index l.pattern)) class) ≡ cont_of (pattern_of l.pattern) class

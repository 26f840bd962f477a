-- The classes of tokens have numbers below 128.
use Rattle.std.proofs.Common.{◌<◌, lit<, arith}
use Rattle.c_tokens.specs.declared.token.Key.{Key}
use Rattle.c_tokens.specs.declared.token.Key.TheVariants as k
use Rattle.c_tokens.specs.declared.token.Punct.{Punct}
use Rattle.c_tokens.specs.declared.token.Punct.TheVariants as p
use Rattle.c_tokens.specs.declared.token.Mark.{Mark}
use Rattle.c_tokens.specs.declared.token.Mark.TheVariants as m
use Rattle.c_tokens.specs.declared.token.Shape.{Shape}
use Rattle.c_tokens.specs.declared.token.Shape.TheVariants as s
use Rattle.c_tokens.specs.ClassOf.{class_of}
use Rattle.c_tokens.specs.ClassNumbers.{class_number, key_number, punct_number, mark_number}

few_keys : (key : Key) → key_number key < 32
few_keys k.Auto = lit< tt
few_keys _ = lit< tt

few_puncts : (punct : Punct) → punct_number punct < 46
few_puncts p.LeftBracket = lit< tt
few_puncts _ = lit< tt

few_marks : (mark : Mark) → mark_number mark < 35
few_marks m.Syntax = lit< tt
few_marks _ = lit< tt

pub class_of_common : (shape : Shape) → class_number (class_of shape) < 128
class_of_common (s.Key key) = omega (arith, few_keys key)
class_of_common (s.Punct punct) = omega (arith, few_puncts punct)
class_of_common (s.Mark mark) = omega (arith, few_marks mark)
class_of_common (s.Word n) = lit< tt
class_of_common (s.Int n) = lit< tt
class_of_common (s.Float n) = lit< tt
class_of_common (s.Char n) = lit< tt
class_of_common (s.Str n) = lit< tt
class_of_common s.End = lit< tt

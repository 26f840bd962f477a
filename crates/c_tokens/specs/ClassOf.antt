-- Which tokens are alike.
use Rattle.c_tokens.specs.declared.token.Shape.{Shape}
use Rattle.c_tokens.specs.declared.token.Shape.TheVariants as s
use Rattle.c_tokens.specs.declared.class.Class.{Class}
use Rattle.c_tokens.specs.declared.class.Class.TheVariants as c

-- the class of a token by itself: all words are alike, and so are all constants of one sort
abbrev pub class_of : Shape → Class
class_of (s.Key k) = c.Key k
class_of (s.Punct p) = c.Punct p
class_of (s.Mark m) = c.Mark m
class_of (s.Word n) = c.Word
class_of (s.Int n) = c.Int
class_of (s.Float n) = c.Float
class_of (s.Char n) = c.Char
class_of (s.Str n) = c.Str
class_of s.End = c.End

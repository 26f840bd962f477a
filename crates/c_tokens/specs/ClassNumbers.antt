-- Classes of tokens by number.
use Rattle.std.specs.Prelude.{ℕ, ◌+◌, ◌*◌}
use Rattle.c_tokens.specs.declared.token.Key.{Key}
use Rattle.c_tokens.specs.declared.token.Key.TheVariants as k
use Rattle.c_tokens.specs.declared.token.Punct.{Punct}
use Rattle.c_tokens.specs.declared.token.Punct.TheVariants as p
use Rattle.c_tokens.specs.declared.token.Mark.{Mark}
use Rattle.c_tokens.specs.declared.token.Mark.TheVariants as m
use Rattle.c_tokens.specs.declared.kind.Kind.{Kind}
use Rattle.c_tokens.specs.declared.kind.Kind.TheVariants as t
use Rattle.c_tokens.specs.declared.class.Class.{Class}
use Rattle.c_tokens.specs.declared.class.Class.TheVariants as c

abbrev pub key_number : Key → ℕ
key_number k.Auto = 0
key_number k.Break = 1
key_number k.Case = 2
key_number k.Char = 3
key_number k.Const = 4
key_number k.Continue = 5
key_number k.Default = 6
key_number k.Do = 7
key_number k.Double = 8
key_number k.Else = 9
key_number k.Enum = 10
key_number k.Extern = 11
key_number k.Float = 12
key_number k.For = 13
key_number k.Goto = 14
key_number k.If = 15
key_number k.Int = 16
key_number k.Long = 17
key_number k.Register = 18
key_number k.Return = 19
key_number k.Short = 20
key_number k.Signed = 21
key_number k.Sizeof = 22
key_number k.Static = 23
key_number k.Struct = 24
key_number k.Switch = 25
key_number k.Typedef = 26
key_number k.Union = 27
key_number k.Unsigned = 28
key_number k.Void = 29
key_number k.Volatile = 30
key_number k.While = 31

abbrev pub punct_number : Punct → ℕ
punct_number p.LeftBracket = 0
punct_number p.RightBracket = 1
punct_number p.LeftParen = 2
punct_number p.RightParen = 3
punct_number p.LeftBrace = 4
punct_number p.RightBrace = 5
punct_number p.Dot = 6
punct_number p.Arrow = 7
punct_number p.PlusPlus = 8
punct_number p.MinusMinus = 9
punct_number p.Ampersand = 10
punct_number p.Star = 11
punct_number p.Plus = 12
punct_number p.Minus = 13
punct_number p.Tilde = 14
punct_number p.Exclamation = 15
punct_number p.Slash = 16
punct_number p.Percent = 17
punct_number p.ShiftLeft = 18
punct_number p.ShiftRight = 19
punct_number p.Less = 20
punct_number p.Greater = 21
punct_number p.LessEqual = 22
punct_number p.GreaterEqual = 23
punct_number p.EqualEqual = 24
punct_number p.NotEqual = 25
punct_number p.Caret = 26
punct_number p.Bar = 27
punct_number p.AmpersandAmpersand = 28
punct_number p.BarBar = 29
punct_number p.Question = 30
punct_number p.Colon = 31
punct_number p.Equal = 32
punct_number p.StarEqual = 33
punct_number p.SlashEqual = 34
punct_number p.PercentEqual = 35
punct_number p.PlusEqual = 36
punct_number p.MinusEqual = 37
punct_number p.ShiftLeftEqual = 38
punct_number p.ShiftRightEqual = 39
punct_number p.AmpersandEqual = 40
punct_number p.CaretEqual = 41
punct_number p.BarEqual = 42
punct_number p.Comma = 43
punct_number p.Semicolon = 44
punct_number p.Ellipsis = 45

abbrev pub mark_number : Mark → ℕ
mark_number m.Syntax = 0
mark_number m.Meta = 1
mark_number m.Text = 2
mark_number m.Match = 3
mark_number m.Id = 4
mark_number m.Num = 5
mark_number m.Exp = 6
mark_number m.Stmt = 7
mark_number m.Decl = 8
mark_number m.Item = 9
mark_number m.Spec = 10
mark_number m.Param = 11
mark_number m.Member = 12
mark_number m.PatternOpen = 13
mark_number m.PatternClose = 14
mark_number m.GroupOpen = 15
mark_number m.GroupClose = 16
mark_number m.Hole = 17
mark_number m.Bind = 18
mark_number m.OneOrMore = 19
mark_number m.ZeroOrMore = 20
mark_number m.OneOrMoreBetween = 21
mark_number m.ZeroOrMoreBetween = 22
mark_number m.Maybe = 23
mark_number m.QuoteParen = 24
mark_number m.QuoteBrace = 25
mark_number m.QuoteId = 26
mark_number m.QuoteNum = 27
mark_number m.QuoteExp = 28
mark_number m.QuoteStmt = 29
mark_number m.QuoteDecl = 30
mark_number m.QuoteItem = 31
mark_number m.QuoteSpec = 32
mark_number m.QuoteParam = 33
mark_number m.QuoteMember = 34

abbrev pub kind_number : Kind → ℕ
kind_number t.Id = 0
kind_number t.Num = 1
kind_number t.Exp = 2
kind_number t.Stmt = 3
kind_number t.Decl = 4
kind_number t.Item = 5
kind_number t.Spec = 6
kind_number t.Param = 7
kind_number t.Member = 8

-- Each class has a number of its own. Those of placeholders with lists are 128 and more.
abbrev pub class_number : Class → ℕ
class_number (c.Key k) = key_number k
class_number (c.Punct p) = 32 + punct_number p
class_number (c.Mark m) = 78 + mark_number m
class_number c.Word = 113
class_number c.Int = 114
class_number c.Float = 115
class_number c.Char = 116
class_number c.Str = 117
class_number c.End = 118
class_number (c.Hole kind lists) = 119 + kind_number kind + 9 * lists

-- The texts of tokens.
use Rattle.std.specs.Prelude.{ℕ, List, [], codes, slice_index_or}
use Rattle.c_tokens.specs.declared.token.Key.{Key}
use Rattle.c_tokens.specs.declared.token.Key.TheVariants as key
use Rattle.c_tokens.specs.declared.token.Punct.{Punct}
use Rattle.c_tokens.specs.declared.token.Punct.TheVariants as punct
use Rattle.c_tokens.specs.declared.token.Shape.{Shape}
use Rattle.c_tokens.specs.declared.token.Shape.TheVariants as s
use Rattle.c_tokens.specs.declared.token.Word.{Word}

-- 6.1.1
abbrev pub text_of_key : Key → List ℕ
text_of_key key.Auto = codes "auto"
text_of_key key.Break = codes "break"
text_of_key key.Case = codes "case"
text_of_key key.Char = codes "char"
text_of_key key.Const = codes "const"
text_of_key key.Continue = codes "continue"
text_of_key key.Default = codes "default"
text_of_key key.Do = codes "do"
text_of_key key.Double = codes "double"
text_of_key key.Else = codes "else"
text_of_key key.Enum = codes "enum"
text_of_key key.Extern = codes "extern"
text_of_key key.Float = codes "float"
text_of_key key.For = codes "for"
text_of_key key.Goto = codes "goto"
text_of_key key.If = codes "if"
text_of_key key.Int = codes "int"
text_of_key key.Long = codes "long"
text_of_key key.Register = codes "register"
text_of_key key.Return = codes "return"
text_of_key key.Short = codes "short"
text_of_key key.Signed = codes "signed"
text_of_key key.Sizeof = codes "sizeof"
text_of_key key.Static = codes "static"
text_of_key key.Struct = codes "struct"
text_of_key key.Switch = codes "switch"
text_of_key key.Typedef = codes "typedef"
text_of_key key.Union = codes "union"
text_of_key key.Unsigned = codes "unsigned"
text_of_key key.Void = codes "void"
text_of_key key.Volatile = codes "volatile"
text_of_key key.While = codes "while"

-- 6.1.5 and 6.1.6
abbrev pub text_of_punct : Punct → List ℕ
text_of_punct punct.LeftBracket = codes "["
text_of_punct punct.RightBracket = codes "]"
text_of_punct punct.LeftParen = codes "("
text_of_punct punct.RightParen = codes ")"
text_of_punct punct.LeftBrace = codes "{"
text_of_punct punct.RightBrace = codes "}"
text_of_punct punct.Dot = codes "."
text_of_punct punct.Arrow = codes "->"
text_of_punct punct.PlusPlus = codes "++"
text_of_punct punct.MinusMinus = codes "--"
text_of_punct punct.Ampersand = codes "&"
text_of_punct punct.Star = codes "*"
text_of_punct punct.Plus = codes "+"
text_of_punct punct.Minus = codes "-"
text_of_punct punct.Tilde = codes "~"
text_of_punct punct.Exclamation = codes "!"
text_of_punct punct.Slash = codes "/"
text_of_punct punct.Percent = codes "%"
text_of_punct punct.ShiftLeft = codes "<<"
text_of_punct punct.ShiftRight = codes ">>"
text_of_punct punct.Less = codes "<"
text_of_punct punct.Greater = codes ">"
text_of_punct punct.LessEqual = codes "<="
text_of_punct punct.GreaterEqual = codes ">="
text_of_punct punct.EqualEqual = codes "=="
text_of_punct punct.NotEqual = codes "!="
text_of_punct punct.Caret = codes "^"
text_of_punct punct.Bar = codes "|"
text_of_punct punct.AmpersandAmpersand = codes "&&"
text_of_punct punct.BarBar = codes "||"
text_of_punct punct.Question = codes "?"
text_of_punct punct.Colon = codes ":"
text_of_punct punct.Equal = codes "="
text_of_punct punct.StarEqual = codes "*="
text_of_punct punct.SlashEqual = codes "/="
text_of_punct punct.PercentEqual = codes "%="
text_of_punct punct.PlusEqual = codes "+="
text_of_punct punct.MinusEqual = codes "-="
text_of_punct punct.ShiftLeftEqual = codes "<<="
text_of_punct punct.ShiftRightEqual = codes ">>="
text_of_punct punct.AmpersandEqual = codes "&="
text_of_punct punct.CaretEqual = codes "^="
text_of_punct punct.BarEqual = codes "|="
text_of_punct punct.Comma = codes ","
text_of_punct punct.Semicolon = codes ";"
text_of_punct punct.Ellipsis = codes "..."

-- the text of a number in a table of words, which is empty where the table has none
abbrev pub text_of_word : List (List ℕ) → Word → List ℕ
text_of_word names n = slice_index_or names n.0 []

-- The text of a token. Plain C has no marks of the macro notation, and they have no text.
abbrev pub text_of_shape : List (List ℕ) → Shape → List ℕ
text_of_shape names (s.Key k) = text_of_key k
text_of_shape names (s.Punct p) = text_of_punct p
text_of_shape names (s.Mark m) = []
text_of_shape names (s.Word n) = text_of_word names n
text_of_shape names (s.Int n) = text_of_word names n
text_of_shape names (s.Float n) = text_of_word names n
text_of_shape names (s.Char n) = text_of_word names n
text_of_shape names (s.Str n) = text_of_word names n
text_of_shape names s.End = []

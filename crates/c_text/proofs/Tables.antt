-- The texts of keywords and punctuators are those of the tables of spellings.
use Rattle.std.proofs.Common.{◌≡◌, refl}
use Rattle.std.specs.Prelude.{Some}
use Rattle.c_tokens.specs.declared.token.Key.{Key}
use Rattle.c_tokens.specs.declared.token.Key.TheVariants as key
use Rattle.c_tokens.specs.declared.token.Punct.{Punct}
use Rattle.c_tokens.specs.declared.token.Punct.TheVariants as punct
use Rattle.c_tokens.specs.Spelling.{find_text, keywords, punctuators}
use Rattle.c_text.specs.Texts.{text_of_key, text_of_punct}

keyword_found : (k : Key) → find_text (text_of_key k) keywords ≡ Some k
unfolding find_text keywords
keyword_found key.Auto = refl
keyword_found key.Break = refl
keyword_found key.Case = refl
keyword_found key.Char = refl
keyword_found key.Const = refl
keyword_found key.Continue = refl
keyword_found key.Default = refl
keyword_found key.Do = refl
keyword_found key.Double = refl
keyword_found key.Else = refl
keyword_found key.Enum = refl
keyword_found key.Extern = refl
keyword_found key.Float = refl
keyword_found key.For = refl
keyword_found key.Goto = refl
keyword_found key.If = refl
keyword_found key.Int = refl
keyword_found key.Long = refl
keyword_found key.Register = refl
keyword_found key.Return = refl
keyword_found key.Short = refl
keyword_found key.Signed = refl
keyword_found key.Sizeof = refl
keyword_found key.Static = refl
keyword_found key.Struct = refl
keyword_found key.Switch = refl
keyword_found key.Typedef = refl
keyword_found key.Union = refl
keyword_found key.Unsigned = refl
keyword_found key.Void = refl
keyword_found key.Volatile = refl
keyword_found key.While = refl

punctuator_found : (p : Punct) → find_text (text_of_punct p) punctuators ≡ Some p
unfolding find_text punctuators
punctuator_found punct.LeftBracket = refl
punctuator_found punct.RightBracket = refl
punctuator_found punct.LeftParen = refl
punctuator_found punct.RightParen = refl
punctuator_found punct.LeftBrace = refl
punctuator_found punct.RightBrace = refl
punctuator_found punct.Dot = refl
punctuator_found punct.Arrow = refl
punctuator_found punct.PlusPlus = refl
punctuator_found punct.MinusMinus = refl
punctuator_found punct.Ampersand = refl
punctuator_found punct.Star = refl
punctuator_found punct.Plus = refl
punctuator_found punct.Minus = refl
punctuator_found punct.Tilde = refl
punctuator_found punct.Exclamation = refl
punctuator_found punct.Slash = refl
punctuator_found punct.Percent = refl
punctuator_found punct.ShiftLeft = refl
punctuator_found punct.ShiftRight = refl
punctuator_found punct.Less = refl
punctuator_found punct.Greater = refl
punctuator_found punct.LessEqual = refl
punctuator_found punct.GreaterEqual = refl
punctuator_found punct.EqualEqual = refl
punctuator_found punct.NotEqual = refl
punctuator_found punct.Caret = refl
punctuator_found punct.Bar = refl
punctuator_found punct.AmpersandAmpersand = refl
punctuator_found punct.BarBar = refl
punctuator_found punct.Question = refl
punctuator_found punct.Colon = refl
punctuator_found punct.Equal = refl
punctuator_found punct.StarEqual = refl
punctuator_found punct.SlashEqual = refl
punctuator_found punct.PercentEqual = refl
punctuator_found punct.PlusEqual = refl
punctuator_found punct.MinusEqual = refl
punctuator_found punct.ShiftLeftEqual = refl
punctuator_found punct.ShiftRightEqual = refl
punctuator_found punct.AmpersandEqual = refl
punctuator_found punct.CaretEqual = refl
punctuator_found punct.BarEqual = refl
punctuator_found punct.Comma = refl
punctuator_found punct.Semicolon = refl
punctuator_found punct.Ellipsis = refl

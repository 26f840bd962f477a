-- Which whole texts stand for something in extended C, and for what (ISO/IEC 9899:1990, 6.1).
use Rattle.std.specs.Prelude.{ℕ, ◌+◌, ◌-◌, Bool, true, false, List, [], ◌∷◌, length, take, drop, Option, Some, None, ◌&&◌, ◌||◌, if◌then◌else◌, nat_eq, nat_le, codes, bytes_eq}
use Rattle.std.specs.List.{list_all}
use Rattle.c_tokens.specs.declared.token.TheConstants.{MAX_WORD_BYTES}
use Rattle.c_tokens.specs.declared.token.Key.{Key}
use Rattle.c_tokens.specs.declared.token.Key.TheVariants as k
use Rattle.c_tokens.specs.declared.token.Punct.{Punct}
use Rattle.c_tokens.specs.declared.token.Punct.TheVariants as p
use Rattle.c_tokens.specs.declared.token.Mark.{Mark}
use Rattle.c_tokens.specs.declared.token.Mark.TheVariants as m
use Rattle.c_tokens.specs.declared.lexical.Dialect.{Dialect}
use Rattle.c_tokens.specs.declared.lexical.Dialect.TheVariants.{C90, C95}
use Rattle.c_tokens.specs.declared.lexical.LexCause.{LexCause}
use Rattle.c_tokens.specs.declared.lexical.LexCause.TheVariants as cause
use Rattle.c_tokens.specs.Bytes.{is_digit, is_letter, is_word_byte, is_white_space, is_sign, is_exponent_mark}
use Rattle.c_tokens.specs.Constants.{starts_with_digit, is_integer, is_floating}
use Rattle.c_tokens.specs.Literals.{starts_literal, contents_start, quote_of, Met, inside, closing, spoiled, ending}
use Rattle.c_tokens.specs.Skipped.{starts_comment, through_close, starts_directive, line_run, is_marker_line}

-- texts, each with what it stands for
abbrev pub Table : Type 0 → Type 0
Table A = List (List ℕ × A)

unfoldable pub find_text : {A : Type 0} → List ℕ → Table A → Option A
find_text text [] = None
find_text text (entry ∷ others) = if bytes_eq text entry.0 then Some entry.1 else find_text text others

-- 6.1.1
unfoldable pub keywords : Table Key
keywords =
    (codes "auto", k.Auto) ∷ (codes "break", k.Break) ∷ (codes "case", k.Case) ∷ (codes "char", k.Char)
    ∷ (codes "const", k.Const) ∷ (codes "continue", k.Continue) ∷ (codes "default", k.Default) ∷ (codes "do", k.Do)
    ∷ (codes "double", k.Double) ∷ (codes "else", k.Else) ∷ (codes "enum", k.Enum) ∷ (codes "extern", k.Extern)
    ∷ (codes "float", k.Float) ∷ (codes "for", k.For) ∷ (codes "goto", k.Goto) ∷ (codes "if", k.If)
    ∷ (codes "int", k.Int) ∷ (codes "long", k.Long) ∷ (codes "register", k.Register) ∷ (codes "return", k.Return)
    ∷ (codes "short", k.Short) ∷ (codes "signed", k.Signed) ∷ (codes "sizeof", k.Sizeof) ∷ (codes "static", k.Static)
    ∷ (codes "struct", k.Struct) ∷ (codes "switch", k.Switch) ∷ (codes "typedef", k.Typedef) ∷ (codes "union", k.Union)
    ∷ (codes "unsigned", k.Unsigned) ∷ (codes "void", k.Void) ∷ (codes "volatile", k.Volatile) ∷ (codes "while", k.While) ∷ []

-- 6.1.5 and 6.1.6
unfoldable pub punctuators : Table Punct
punctuators =
    (codes "[", p.LeftBracket) ∷ (codes "]", p.RightBracket) ∷ (codes "(", p.LeftParen) ∷ (codes ")", p.RightParen)
    ∷ (codes "{", p.LeftBrace) ∷ (codes "}", p.RightBrace) ∷ (codes ".", p.Dot) ∷ (codes "->", p.Arrow)
    ∷ (codes "++", p.PlusPlus) ∷ (codes "--", p.MinusMinus) ∷ (codes "&", p.Ampersand) ∷ (codes "*", p.Star)
    ∷ (codes "+", p.Plus) ∷ (codes "-", p.Minus) ∷ (codes "~", p.Tilde) ∷ (codes "!", p.Exclamation)
    ∷ (codes "/", p.Slash) ∷ (codes "%", p.Percent) ∷ (codes "<<", p.ShiftLeft) ∷ (codes ">>", p.ShiftRight)
    ∷ (codes "<", p.Less) ∷ (codes ">", p.Greater) ∷ (codes "<=", p.LessEqual) ∷ (codes ">=", p.GreaterEqual)
    ∷ (codes "==", p.EqualEqual) ∷ (codes "!=", p.NotEqual) ∷ (codes "^", p.Caret) ∷ (codes "|", p.Bar)
    ∷ (codes "&&", p.AmpersandAmpersand) ∷ (codes "||", p.BarBar) ∷ (codes "?", p.Question) ∷ (codes ":", p.Colon)
    ∷ (codes "=", p.Equal) ∷ (codes "*=", p.StarEqual) ∷ (codes "/=", p.SlashEqual) ∷ (codes "%=", p.PercentEqual)
    ∷ (codes "+=", p.PlusEqual) ∷ (codes "-=", p.MinusEqual) ∷ (codes "<<=", p.ShiftLeftEqual) ∷ (codes ">>=", p.ShiftRightEqual)
    ∷ (codes "&=", p.AmpersandEqual) ∷ (codes "^=", p.CaretEqual) ∷ (codes "|=", p.BarEqual) ∷ (codes ",", p.Comma)
    ∷ (codes ";", p.Semicolon) ∷ (codes "...", p.Ellipsis) ∷ []

-- the marks that end in a word
unfoldable pub word_marks : Table Mark
word_marks =
    (codes "@syntax", m.Syntax) ∷ (codes "@meta", m.Meta) ∷ (codes "@text", m.Text) ∷ (codes "@match", m.Match)
    ∷ (codes "@id", m.Id) ∷ (codes "@num", m.Num) ∷ (codes "@exp", m.Exp) ∷ (codes "@stmt", m.Stmt)
    ∷ (codes "@decl", m.Decl) ∷ (codes "@item", m.Item) ∷ (codes "@spec", m.Spec) ∷ (codes "@param", m.Param)
    ∷ (codes "@member", m.Member)
    ∷ (codes "`@id", m.QuoteId) ∷ (codes "`@num", m.QuoteNum) ∷ (codes "`@exp", m.QuoteExp) ∷ (codes "`@stmt", m.QuoteStmt)
    ∷ (codes "`@decl", m.QuoteDecl) ∷ (codes "`@item", m.QuoteItem) ∷ (codes "`@spec", m.QuoteSpec) ∷ (codes "`@param", m.QuoteParam)
    ∷ (codes "`@member", m.QuoteMember) ∷ []

-- the other marks
unfoldable pub sign_marks : Table Mark
sign_marks =
    (codes "@{", m.PatternOpen) ∷ (codes "@}", m.PatternClose) ∷ (codes "@(", m.GroupOpen) ∷ (codes "@)", m.GroupClose)
    ∷ (codes "$", m.Hole) ∷ (codes "$$", m.Bind) ∷ (codes "$$+", m.OneOrMore) ∷ (codes "$$*", m.ZeroOrMore)
    ∷ (codes "$$+/", m.OneOrMoreBetween) ∷ (codes "$$*/", m.ZeroOrMoreBetween) ∷ (codes "$$?", m.Maybe)
    ∷ (codes "`(", m.QuoteParen) ∷ (codes "`{", m.QuoteBrace) ∷ []

-- other spellings of punctuators (ISO/IEC 9899:1990/AMD1:1995)
unfoldable pub other_punctuators : Table Punct
other_punctuators =
    (codes "<:", p.LeftBracket) ∷ (codes ":>", p.RightBracket) ∷ (codes "<%", p.LeftBrace) ∷ (codes "%>", p.RightBrace) ∷ []

-- a letter, then letters and digits (6.1.2)
unfoldable pub is_word : List ℕ → Bool
is_word [] = false
is_word (b ∷ rest) = is_letter b && list_all is_word_byte rest

-- a word after `@`
unfoldable pub is_word_after_at : List ℕ → Bool
is_word_after_at [] = false
is_word_after_at (b ∷ rest) = nat_eq b 64 && is_word rest

-- a word after `@`, or after a backquote and `@`
unfoldable pub is_marked_word : List ℕ → Bool
is_marked_word [] = false
is_marked_word (b ∷ rest) = is_word_after_at (b ∷ rest) || (nat_eq b 96 && is_word_after_at rest)

-- digits, letters, points, and signs after e or E; the byte before these is the first argument
unfoldable pub goes_on_number : ℕ → List ℕ → Bool
goes_on_number before [] = true
goes_on_number before (b ∷ rest) = (is_word_byte b || nat_eq b 46 || (is_sign b && is_exponent_mark before)) && goes_on_number b rest

-- a preprocessing number (6.1.8)
unfoldable pub is_number : List ℕ → Bool
is_number [] = false
is_number (b ∷ rest) = (is_digit b || (nat_eq b 46 && starts_with_digit rest)) && goes_on_number b rest

unfoldable pub is_space : List ℕ → Bool
is_space [] = false
is_space (b ∷ []) = is_white_space b
is_space _ = false

-- what a token is, up to the number of its text
pub data Sort : Type 0 where
  keyword : Key → Sort
  punctuator : Punct → Sort
  mark : Mark → Sort
  word : Sort
  integer : Sort
  floating : Sort
  character : Sort
  string : Sort

-- What a text stands for. A marker is white space where it stands first on its line, and spoiled elsewhere.
-- A text that is refused is spoiled with a cause at a byte of it.
pub data Spelling : Type 0 where
  space : Spelling
  marker : Spelling
  token : Sort → Spelling
  refused : ℕ → LexCause → Spelling

abbrev pub token_or : {A : Type 0} → (A → Sort) → Option A → Option Spelling → Option Spelling
token_or sort (Some a) other = Some (token (sort a))
token_or sort None other = other

abbrev pub mark_or_refused : Option Mark → Spelling
mark_or_refused (Some a) = token (mark a)
mark_or_refused None = refused 0 cause.BadMark

abbrev pub keyword_or : Option Key → Spelling → Spelling
keyword_or (Some a) other = token (keyword a)
keyword_or None other = other

-- what a text stands for that is all of one word
unfoldable pub word_spelling : List ℕ → Spelling
word_spelling text = keyword_or (find_text text keywords) (if nat_le (length text) MAX_WORD_BYTES then token word else refused 0 cause.LongWord)

-- what a preprocessing number stands for
unfoldable pub number_spelling : List ℕ → Spelling
number_spelling text = if is_integer text then token integer else if is_floating text then token floating else refused 0 cause.BadNumber

-- what a closed literal stands for
abbrev pub closed_spelling : ℕ → Bool → Spelling
closed_spelling quote empty = if nat_eq quote 34 then token string else if empty then refused 0 cause.EmptyChar else token character

-- a bad escape is spoiled at its backslash, the other causes at the start of the literal
abbrev pub spoiled_spelling : ℕ → LexCause → Spelling
spoiled_spelling place cause.BadEscape = refused place cause.BadEscape
spoiled_spelling place c = refused 0 c

abbrev pub ended_spelling : List ℕ → ℕ → Met → Option Spelling
ended_spelling text place inside = None
ended_spelling text place closing =
    if nat_eq (place + 1) (length text) then Some (closed_spelling (quote_of text) (nat_eq place (contents_start text))) else None
ended_spelling text place (spoiled c) = Some (spoiled_spelling place c)

-- What a text stands for that begins a literal. Beyond the closing quote there is no spelling.
unfoldable pub literal_spelling : List ℕ → Option Spelling
literal_spelling text = ended_spelling text (ending text).place (ending text).found

abbrev pub closed_comment : ℕ → Option ℕ → Option Spelling
closed_comment rest None = Some (refused 0 cause.OpenComment)
closed_comment rest (Some n) = if nat_eq n rest then Some space else None

-- What a text stands for that begins a comment. Beyond the first `*/` there is no spelling.
unfoldable pub comment_spelling : List ℕ → Option Spelling
comment_spelling text = closed_comment (length text - 2) (through_close (drop 2 text))

-- What a text stands for that begins a directive. A marker has the rest of its line, with the line feed.
unfoldable pub directive_spelling : List ℕ → Option Spelling
directive_spelling text =
    if is_marker_line (take (line_run text) text) then if nat_le (length text) (line_run text + 1) then Some marker else None
    else Some (refused 0 cause.Directive)

-- a byte that begins nothing
unfoldable pub stray_spelling : List ℕ → Option Spelling
stray_spelling [] = None
stray_spelling (b ∷ []) = Some (refused 0 (if nat_eq b 64 || nat_eq b 96 then cause.BadMark else cause.StrayByte))
stray_spelling _ = None

abbrev pub others_in : Dialect → Table Punct
others_in C90 = []
others_in C95 = other_punctuators

-- what a text stands for that is in one of the tables of signs, or is one byte
unfoldable pub sign_spelling : Dialect → List ℕ → Option Spelling
sign_spelling dialect text =
    token_or punctuator (find_text text punctuators)
    (token_or mark (find_text text sign_marks) (token_or punctuator (find_text text (others_in dialect)) (stray_spelling text)))

-- what a text stands for that begins no literal, comment or directive
unfoldable pub plain_spelling : Dialect → List ℕ → Option Spelling
plain_spelling dialect text =
    if is_word text then Some (word_spelling text)
    else if is_marked_word text then Some (mark_or_refused (find_text text word_marks))
    else if is_number text then Some (number_spelling text)
    else if is_space text then Some space
    else sign_spelling dialect text

-- What a whole text stands for. A text of which this is None is no spelling.
unfoldable pub spelling_of : Dialect → List ℕ → Option Spelling
spelling_of dialect text =
    if starts_literal text then literal_spelling text
    else if starts_comment text then comment_spelling text
    else if starts_directive dialect text then directive_spelling text
    else plain_spelling dialect text

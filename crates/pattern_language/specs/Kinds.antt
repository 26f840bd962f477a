-- With which classes of tokens a tree of a kind begins, and which may go on with it.
use Rattle.std.specs.Prelude.{Bool, true, false, List, [], ◌∷◌, ◌++◌}
use Rattle.c_tokens.specs.declared.token.Key.TheVariants as k
use Rattle.c_tokens.specs.declared.token.Punct.TheVariants as p
use Rattle.c_tokens.specs.declared.kind.Kind.{Kind}
use Rattle.c_tokens.specs.declared.kind.Kind.TheVariants as t
use Rattle.c_tokens.specs.declared.class.Class.{Class}
use Rattle.c_tokens.specs.declared.class.Class.TheVariants as c
use Rattle.pattern_language.specs.Classes.{Classes, one_of}

-- the type specifiers that are keywords (ISO/IEC 9899:1990, 6.5.2)
abbrev pub types : List Class
types = c.Key k.Void ∷ c.Key k.Char ∷ c.Key k.Short ∷ c.Key k.Int ∷ c.Key k.Long ∷ c.Key k.Float ∷ c.Key k.Double ∷ c.Key k.Signed ∷ c.Key k.Unsigned ∷ []

-- the storage classes (6.5.1)
abbrev pub storage : List Class
storage = c.Key k.Typedef ∷ c.Key k.Extern ∷ c.Key k.Static ∷ c.Key k.Auto ∷ c.Key k.Register ∷ []

-- the qualifiers, and the keywords of structs, unions and enumerations (6.5.2, 6.5.3)
abbrev pub tags : List Class
tags = c.Key k.Const ∷ c.Key k.Volatile ∷ c.Key k.Struct ∷ c.Key k.Union ∷ c.Key k.Enum ∷ []

-- the binary and assignment operators and the question mark (6.3.5 to 6.3.16)
abbrev pub infix_operators : List Class
infix_operators =
    c.Punct p.Star ∷ c.Punct p.Slash ∷ c.Punct p.Percent ∷ c.Punct p.Plus ∷ c.Punct p.Minus ∷ c.Punct p.ShiftLeft ∷ c.Punct p.ShiftRight ∷ c.Punct p.Less ∷ c.Punct p.Greater ∷ c.Punct p.LessEqual ∷ c.Punct p.GreaterEqual ∷ c.Punct p.EqualEqual ∷ c.Punct p.NotEqual ∷ c.Punct p.Ampersand ∷ c.Punct p.Caret ∷ c.Punct p.Bar ∷ c.Punct p.AmpersandAmpersand ∷ c.Punct p.BarBar ∷ c.Punct p.Question
    ∷ c.Punct p.Equal ∷ c.Punct p.StarEqual ∷ c.Punct p.SlashEqual ∷ c.Punct p.PercentEqual ∷ c.Punct p.PlusEqual ∷ c.Punct p.MinusEqual ∷ c.Punct p.ShiftLeftEqual ∷ c.Punct p.ShiftRightEqual ∷ c.Punct p.AmpersandEqual ∷ c.Punct p.CaretEqual ∷ c.Punct p.BarEqual ∷ []

-- the keywords with which a statement begins (6.6)
abbrev pub statement_words : List Class
statement_words = c.Key k.If ∷ c.Key k.Switch ∷ c.Key k.While ∷ c.Key k.Do ∷ c.Key k.For ∷ c.Key k.Goto ∷ c.Key k.Continue ∷ c.Key k.Break ∷ c.Key k.Return ∷ c.Key k.Case ∷ c.Key k.Default ∷ []

-- the parenthesis and the prefix operators (6.3.1, 6.3.3)
abbrev pub prefix_operators : List Class
prefix_operators =
    c.Punct p.LeftParen ∷ c.Punct p.Ampersand ∷ c.Punct p.Star ∷ c.Punct p.Plus ∷ c.Punct p.Minus ∷ c.Punct p.Tilde ∷ c.Punct p.Exclamation
    ∷ c.Punct p.PlusPlus ∷ c.Punct p.MinusMinus ∷ c.Key k.Sizeof ∷ []

-- the postfix operators (6.3.2)
abbrev pub postfix_operators : List Class
postfix_operators = c.Punct p.LeftParen ∷ c.Punct p.LeftBracket ∷ c.Punct p.Dot ∷ c.Punct p.Arrow ∷ c.Punct p.PlusPlus ∷ c.Punct p.MinusMinus ∷ []

abbrev pub begin_exp : List Class
begin_exp = prefix_operators ++ c.Word ∷ c.Int ∷ c.Float ∷ c.Char ∷ c.Str ∷ c.Hole t.Id 0 ∷ c.Hole t.Num 0 ∷ c.Hole t.Exp 0 ∷ []

abbrev pub begin_spec : List Class
begin_spec = types ++ tags ++ c.Word ∷ c.Hole t.Spec 0 ∷ []

abbrev pub begin_decl : List Class
begin_decl = begin_spec ++ storage ++ c.Hole t.Decl 0 ∷ []

-- with which classes a tree of the kind begins
abbrev pub beginnings : Kind → List Class
beginnings t.Id = c.Word ∷ c.Hole t.Id 0 ∷ []
beginnings t.Num = c.Int ∷ c.Hole t.Num 0 ∷ []
beginnings t.Exp = begin_exp
beginnings t.Stmt = begin_exp ++ statement_words ++ c.Punct p.LeftBrace ∷ c.Punct p.Semicolon ∷ c.Hole t.Stmt 0 ∷ []
beginnings t.Spec = begin_spec
beginnings t.Decl = begin_decl
beginnings t.Item = begin_decl ++ c.Punct p.Star ∷ c.Punct p.LeftParen ∷ c.Hole t.Id 0 ∷ c.Hole t.Item 0 ∷ []
beginnings t.Param = begin_spec ++ storage ++ c.Hole t.Param 0 ∷ []
beginnings t.Member = begin_spec ++ c.Hole t.Member 0 ∷ []

-- which classes may go on with a tree of the kind
abbrev pub continuations : Kind → List Class
continuations t.Exp = infix_operators ++ postfix_operators ++ c.Str ∷ []
continuations t.Stmt = c.Key k.Else ∷ []
continuations t.Spec = types ++ c.Key k.Const ∷ c.Key k.Volatile ∷ c.Punct p.LeftBrace ∷ []
continuations t.Param = begin_spec ++ storage ++ c.Punct p.Star ∷ c.Punct p.LeftParen ∷ c.Punct p.LeftBracket ∷ c.Punct p.LeftBrace ∷ c.Hole t.Id 0 ∷ []
continuations t.Id = []
continuations t.Num = []
continuations t.Decl = []
continuations t.Item = []
continuations t.Member = []

-- First of a kind
abbrev pub first : Kind → Classes
first kind = one_of (beginnings kind)

-- Cont of a kind
abbrev pub cont : Kind → Classes
cont kind = one_of (continuations kind)

abbrev pub is_some_class : List Class → Bool
is_some_class [] = false
is_some_class (c ∷ others) = true

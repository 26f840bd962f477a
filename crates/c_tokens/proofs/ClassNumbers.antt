-- Each number below 128 is that of a class.
use Rattle.std.proofs.Common.{zero, suc, inl, inr, ◌≡◌, ℕ, ◌+◌, ◌<◌, ◌≤◌, refl, List, [], ◌∷◌, map, arith, ◌∙◌}
use Rattle.std.specs.List.{range_with_len}
use Rattle.c_tokens.specs.declared.token.Key.TheVariants as k
use Rattle.c_tokens.specs.declared.token.Punct.TheVariants as p
use Rattle.c_tokens.specs.declared.token.Mark.TheVariants as m
use Rattle.c_tokens.specs.declared.kind.Kind.TheVariants as t
use Rattle.c_tokens.specs.declared.class.Class.{Class}
use Rattle.c_tokens.specs.declared.class.Class.TheVariants as c
use Rattle.std.proofs.lemmas.Bool.Decides.{eqb_tells}
use Rattle.c_tokens.specs.ClassNumbers.{class_number}

-- every class but the placeholders with lists
every_class : List Class
every_class =
    c.Key k.Auto ∷ c.Key k.Break ∷ c.Key k.Case ∷ c.Key k.Char ∷ c.Key k.Const ∷ c.Key k.Continue ∷ c.Key k.Default ∷ c.Key k.Do
    ∷ c.Key k.Double ∷ c.Key k.Else ∷ c.Key k.Enum ∷ c.Key k.Extern ∷ c.Key k.Float ∷ c.Key k.For ∷ c.Key k.Goto ∷ c.Key k.If
    ∷ c.Key k.Int ∷ c.Key k.Long ∷ c.Key k.Register ∷ c.Key k.Return ∷ c.Key k.Short ∷ c.Key k.Signed ∷ c.Key k.Sizeof ∷ c.Key k.Static
    ∷ c.Key k.Struct ∷ c.Key k.Switch ∷ c.Key k.Typedef ∷ c.Key k.Union ∷ c.Key k.Unsigned ∷ c.Key k.Void ∷ c.Key k.Volatile ∷ c.Key k.While
    ∷ c.Punct p.LeftBracket ∷ c.Punct p.RightBracket ∷ c.Punct p.LeftParen ∷ c.Punct p.RightParen ∷ c.Punct p.LeftBrace ∷ c.Punct p.RightBrace ∷ c.Punct p.Dot ∷ c.Punct p.Arrow
    ∷ c.Punct p.PlusPlus ∷ c.Punct p.MinusMinus ∷ c.Punct p.Ampersand ∷ c.Punct p.Star ∷ c.Punct p.Plus ∷ c.Punct p.Minus ∷ c.Punct p.Tilde ∷ c.Punct p.Exclamation
    ∷ c.Punct p.Slash ∷ c.Punct p.Percent ∷ c.Punct p.ShiftLeft ∷ c.Punct p.ShiftRight ∷ c.Punct p.Less ∷ c.Punct p.Greater ∷ c.Punct p.LessEqual ∷ c.Punct p.GreaterEqual
    ∷ c.Punct p.EqualEqual ∷ c.Punct p.NotEqual ∷ c.Punct p.Caret ∷ c.Punct p.Bar ∷ c.Punct p.AmpersandAmpersand ∷ c.Punct p.BarBar ∷ c.Punct p.Question ∷ c.Punct p.Colon
    ∷ c.Punct p.Equal ∷ c.Punct p.StarEqual ∷ c.Punct p.SlashEqual ∷ c.Punct p.PercentEqual ∷ c.Punct p.PlusEqual ∷ c.Punct p.MinusEqual ∷ c.Punct p.ShiftLeftEqual ∷ c.Punct p.ShiftRightEqual
    ∷ c.Punct p.AmpersandEqual ∷ c.Punct p.CaretEqual ∷ c.Punct p.BarEqual ∷ c.Punct p.Comma ∷ c.Punct p.Semicolon ∷ c.Punct p.Ellipsis ∷ c.Mark m.Syntax ∷ c.Mark m.Meta
    ∷ c.Mark m.Text ∷ c.Mark m.Match ∷ c.Mark m.Id ∷ c.Mark m.Num ∷ c.Mark m.Exp ∷ c.Mark m.Stmt ∷ c.Mark m.Decl ∷ c.Mark m.Item
    ∷ c.Mark m.Spec ∷ c.Mark m.Param ∷ c.Mark m.Member ∷ c.Mark m.PatternOpen ∷ c.Mark m.PatternClose ∷ c.Mark m.GroupOpen ∷ c.Mark m.GroupClose ∷ c.Mark m.Hole
    ∷ c.Mark m.Bind ∷ c.Mark m.OneOrMore ∷ c.Mark m.ZeroOrMore ∷ c.Mark m.OneOrMoreBetween ∷ c.Mark m.ZeroOrMoreBetween ∷ c.Mark m.Maybe ∷ c.Mark m.QuoteParen ∷ c.Mark m.QuoteBrace
    ∷ c.Mark m.QuoteId ∷ c.Mark m.QuoteNum ∷ c.Mark m.QuoteExp ∷ c.Mark m.QuoteStmt ∷ c.Mark m.QuoteDecl ∷ c.Mark m.QuoteItem ∷ c.Mark m.QuoteSpec ∷ c.Mark m.QuoteParam
    ∷ c.Mark m.QuoteMember ∷ c.Word ∷ c.Int ∷ c.Float ∷ c.Char ∷ c.Str ∷ c.End ∷ c.Hole t.Id 0
    ∷ c.Hole t.Num 0 ∷ c.Hole t.Exp 0 ∷ c.Hole t.Stmt 0 ∷ c.Hole t.Decl 0 ∷ c.Hole t.Item 0 ∷ c.Hole t.Spec 0 ∷ c.Hole t.Param 0 ∷ c.Hole t.Member 0 ∷ []

numbers : map class_number every_class ≡ range_with_len 0 128
unfolding every_class
numbers = refl

found : (xs : List Class) (a n size : ℕ) → map class_number xs ≡ range_with_len a size → a ≤ n → n < a + size → (c : Class) × (class_number c ≡ n)
found [] a n zero e l h = absurd (omega arith)
found [] a n (suc size) e l h = absurd (cc e)
found (x ∷ xs) a n zero e l h = absurd (cc e)
found (x ∷ xs) a n (suc size) e l h =
    let head : class_number x ≡ a = cc e in
    let tail : map class_number xs ≡ range_with_len (a + 1) size = cc e in
    elim (eqb_tells a n) [
      | inl w ↦ (x, head ∙ w.1)
      | inr w ↦ found xs (a + 1) n size tail (omega (arith, w.1)) (omega arith)
    ]

pub class_of_number : (n : ℕ) → n < 128 → (c : Class) × (class_number c ≡ n)
class_of_number n h = found every_class 0 n 128 numbers (omega arith) (omega arith)

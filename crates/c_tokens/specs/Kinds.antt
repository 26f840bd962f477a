-- Which kinds of trees may stand for which.
use Rattle.std.specs.Prelude.{Bool, true, false}
use Rattle.c_tokens.specs.declared.kind.Kind.{Kind}
use Rattle.c_tokens.specs.declared.kind.Kind.TheVariants.{Id, Num, Exp, Stmt, Decl, Item, Spec, Param, Member}

abbrev pub is_same_kind : Kind → Kind → Bool
is_same_kind Id Id = true
is_same_kind Num Num = true
is_same_kind Exp Exp = true
is_same_kind Stmt Stmt = true
is_same_kind Decl Decl = true
is_same_kind Item Item = true
is_same_kind Spec Spec = true
is_same_kind Param Param = true
is_same_kind Member Member = true
is_same_kind _ _ = false

-- equal kinds, identifiers and numbers below expressions, declarations below items
abbrev pub is_below : Kind → Kind → Bool
is_below Id Exp = true
is_below Num Exp = true
is_below Decl Item = true
is_below a b = is_same_kind a b

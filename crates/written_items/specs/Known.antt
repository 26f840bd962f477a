-- Tokens of extended C whose texts stand for them.
use Rattle.std.specs.Prelude.{ℕ, List, Option, Some, None}
use Rattle.c_tokens.specs.declared.token.Shape.{Shape}
use Rattle.c_tokens.specs.declared.token.Shape.TheVariants as s
use Rattle.c_forms.specs.Forests.{Plain, Forest, empty, tree}
use Rattle.c_forms.specs.Tokens.{held}
use Rattle.c_reader.specs.Tokens.{raw_at}
use Rattle.text_tokens.specs.Written.{IsWritten}

-- a token that is written, a mark of the macro notation, or the end
abbrev pub IsKnown : List (List ℕ) → Shape → Type 0
IsKnown names (s.Mark m) = Unit {0}
IsKnown names s.End = Unit {0}
IsKnown names a = IsWritten names a

-- at every place
abbrev pub AreKnown : List (List ℕ) → List Shape → Type 0
AreKnown names w = (place : ℕ) → IsKnown names (raw_at w place)

-- a token that a form holds, if it holds one
abbrev pub IsKnownIfAny : List (List ℕ) → Option Shape → Type 0
IsKnownIfAny names None = Unit {0}
IsKnownIfAny names (Some a) = IsKnown names a

-- those of the nodes of trees
abbrev pub HoldKnown : List (List ℕ) → Forest → Type 0
HoldKnown names empty = Unit {0}
HoldKnown names (tree f s ps rest) = IsKnownIfAny names (held f) × (HoldKnown names ps × HoldKnown names rest)

-- those of a tree
abbrev pub TreeHoldsKnown : List (List ℕ) → Plain → Type 0
TreeHoldsKnown names t = IsKnownIfAny names (held t.form) × HoldKnown names t.parts

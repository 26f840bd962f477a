-- Which operators go on with a tree of a level. It is computed.
use Rattle.std.specs.Prelude.{ℕ, Bool, false, not, ◌&&◌, ◌||◌, nat_eq, nat_lt, List, [], ◌∷◌, ◌++◌, Option, Some, None}
use Rattle.c_tokens.specs.declared.class.Class.TheVariants as class
use Rattle.c_tokens.specs.ClassNumbers.{class_number}
use Rattle.c_forms.specs.declared.pieces.Sort.{Sort}
use Rattle.c_forms.specs.declared.pieces.Sort.TheVariants as s
use Rattle.c_forms.specs.declared.pieces.Piece.{Piece}
use Rattle.c_forms.specs.declared.forms.Form.{Form}
use Rattle.c_forms.specs.Measures.{level, pieces}
use Rattle.c_forms.specs.Tokens.{continued}
use Rattle.c_tokens.specs.declared.token.Punct.{Punct}
use Rattle.c_syntax.specs.Grammar.{left_level}
use Rattle.c_forms.specs.Sets.{Classes, within, given, starts, goes_on, all_puncts}
use Rattle.c_spelled.specs.Fitting.{reads, follows, fitting}

abbrev pub is_tight : ℕ → Option Form → Bool
is_tight least (Some f) = not (nat_lt (level f) least)
is_tight least None = false

-- the operators that go on with what has at least a level
abbrev pub tails : Sort → ℕ → List Punct → Classes
tails due least [] = []
tails due least (p ∷ ps) = given (is_tight least (continued due p)) (class_number (class.Punct p) ∷ []) ++ tails due least ps

-- whether a form may go on after a tree of a level, as its left operand
abbrev pub is_apt : ℕ → Form → Bool
is_apt l g = nat_lt (level g) l || (nat_eq (level g) l && nat_eq (left_level (pieces g)) l)

abbrev pub is_unapt : ℕ → Option Form → Bool
is_unapt l (Some g) = not (is_apt l g)
is_unapt l None = false

abbrev pub loose : Sort → ℕ → List Punct → Classes
loose due l [] = []
loose due l (p ∷ ps) = given (is_unapt l (continued due p)) (class_number (class.Punct p) ∷ []) ++ loose due l ps

-- what may not stand after a tree of a level
abbrev pub unapt : Sort → ℕ → Classes
unapt s.Exp l = class_number class.Str ∷ loose s.Exp l all_puncts
unapt due l = given (nat_lt l 2) (goes_on due l) ++ loose due l all_puncts

-- what goes on with a tree of a sort with levels, besides its operators
abbrev pub prefix : Sort → Classes
prefix s.Exp = class_number class.Str ∷ []
prefix s.AbstractDeclarator = starts s.AbstractDeclarator ++ starts s.Qualifier
prefix s.ParamDeclarator = starts s.ParamDeclarator ++ starts s.Qualifier
prefix s.MemberName = starts s.MemberName
prefix _ = []

-- the pieces of a form of a sort with levels, from those on
abbrev pub operands_fit : Sort → Form → List Piece → Bool
operands_fit own f ps = reads own ps && (fitting own f ps && within (follows own ps) (unapt own (level f)))

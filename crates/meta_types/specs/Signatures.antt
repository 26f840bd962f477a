-- The types of the primitives.
use Rattle.std.specs.Prelude.{◌&&◌, ◌+◌, ◌-◌, List, [], ◌∷◌, Option, Some, None, option_map, option_and_then, find, nat_le, codes, if◌then◌else◌}
use Rattle.std.specs.List.{list_all}
use Rattle.c_tokens.specs.Spelling.{Table}
use Rattle.c_tokens.specs.declared.kind.Kind.{Kind}
use Rattle.c_tokens.specs.declared.kind.Kind.TheVariants.{Id, Num, Exp}
use Rattle.c_tokens.specs.declared.kind.Base.{Base}
use Rattle.c_tokens.specs.declared.kind.Base.TheVariants.{Int, Text, Tree}
use Rattle.c_tokens.specs.declared.kind.MetaType.{MetaType}
use Rattle.meta_types.specs.Fit.{does_fit}
use Rattle.meta_types.specs.declared.primitives.Prim.{Prim}
use Rattle.meta_types.specs.declared.primitives.Prim.TheVariants as p

abbrev pub single : Base → MetaType
single base = record { base = base; lists = 0 }

abbrev pub int : MetaType
int = single Int

abbrev pub text : MetaType
text = single Text

abbrev pub tree : Kind → MetaType
tree kind = single (Tree kind)

abbrev pub list_of : MetaType → MetaType
list_of t = record { base = t.base; lists = t.lists + 1 }

abbrev pub element_of : MetaType → MetaType
element_of t = record { base = t.base; lists = t.lists - 1 }

-- A type as a signature shows it: itself, or t, or t[], where t is any type of at most two lists.
pub data Shown : Type 0 where
  just : MetaType → Shown
  variable : Shown
  list : Shown

pub record Signature : Type 0 where
  pub parameters : List Shown
  pub result : Shown

abbrev pub takes_one : Shown → Shown → Signature
takes_one a r = record { parameters = a ∷ []; result = r }

abbrev pub takes_two : Shown → Shown → Shown → Signature
takes_two a b r = record { parameters = a ∷ b ∷ []; result = r }

unfoldable pub signature_of : Prim → Signature
signature_of p.Length = takes_one list (just int)
signature_of p.First = takes_one list variable
signature_of p.Rest = takes_one list list
signature_of p.Cons = takes_two variable list list
signature_of p.Append = takes_two list list list
signature_of p.Concat = takes_two (just text) (just text) (just text)
signature_of p.Digits = takes_one (just int) (just text)
signature_of p.TextOf = takes_one (just (tree Id)) (just text)
signature_of p.Fresh = takes_one (just text) (just (tree Id))
signature_of p.MakeId = takes_one (just text) (just (tree Id))
signature_of p.JoinId = takes_two (just (tree Id)) (just text) (just (tree Id))
signature_of p.String = takes_one (just text) (just (tree Exp))
signature_of p.Number = takes_one (just int) (just (tree Exp))
signature_of p.Value = takes_one (just (tree Num)) (just int)
signature_of p.Same = takes_two (just (tree Exp)) (just (tree Exp)) (just int)
signature_of p.AsId = takes_one (just (tree Exp)) (just (list_of (tree Id)))
signature_of p.AsNum = takes_one (just (tree Exp)) (just (list_of (tree Num)))
signature_of p.Error = takes_one (just text) (just int)

-- The types that the arguments give for t, where t or t[] is shown.
-- None where there are more or fewer arguments, one fits no type shown, or no list stands for t[].
unfoldable pub types_given : List Shown → List MetaType → Option (List MetaType)
types_given [] [] = Some []
types_given (just s ∷ shown) (a ∷ arguments) = if does_fit a s then types_given shown arguments else None
types_given (variable ∷ shown) (a ∷ arguments) = option_map (λ types. a ∷ types) (types_given shown arguments)
types_given (list ∷ shown) (a ∷ arguments) = if nat_le 1 a.lists then option_map (λ types. element_of a ∷ types) (types_given shown arguments) else None
types_given _ _ = None

-- t: the given type that each given type fits, where it has at most two lists
unfoldable pub variable_of : List MetaType → Option MetaType
variable_of types = find (λ t. nat_le t.lists 2 && list_all (λ s. does_fit s t) types) types

abbrev pub instance_of : Shown → MetaType → MetaType
instance_of (just s) t = s
instance_of variable t = t
instance_of list t = list_of t

-- the type of a result where these types are given for t; none are where t is not shown
abbrev pub result_with : Shown → List MetaType → Option MetaType
result_with (just s) [] = Some s
result_with shown types = option_map (instance_of shown) (variable_of types)

-- the type of a call, None where the arguments do not meet the signature
unfoldable pub call_type : Signature → List MetaType → Option MetaType
call_type signature arguments = option_and_then (result_with signature.result) (types_given signature.parameters arguments)

-- the type of a call of a primitive
unfoldable pub prim_type : Prim → List MetaType → Option MetaType
prim_type prim arguments = call_type (signature_of prim) arguments

-- the names of the primitives
unfoldable pub primitives : Table Prim
primitives =
    (codes "length", p.Length) ∷ (codes "first", p.First) ∷ (codes "rest", p.Rest) ∷ (codes "cons", p.Cons)
    ∷ (codes "append", p.Append) ∷ (codes "concat", p.Concat) ∷ (codes "digits", p.Digits) ∷ (codes "text_of", p.TextOf)
    ∷ (codes "fresh", p.Fresh) ∷ (codes "make_id", p.MakeId) ∷ (codes "join_id", p.JoinId) ∷ (codes "string", p.String)
    ∷ (codes "number", p.Number) ∷ (codes "value", p.Value) ∷ (codes "same", p.Same) ∷ (codes "as_id", p.AsId)
    ∷ (codes "as_num", p.AsNum) ∷ (codes "error", p.Error) ∷ []

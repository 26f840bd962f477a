-- Sets of classes of tokens.
use Rattle.std.specs.Prelude.{◌≡◌, Bool, true, false, ◌||◌, List, [], ◌∷◌, nat_eq, nat_lt}
use Rattle.c_tokens.specs.declared.class.Class.{Class}
use Rattle.c_tokens.specs.ClassNumbers.{class_number}

-- no placeholder with lists
abbrev pub is_common : Class → Bool
is_common c = nat_lt (class_number c) 128

-- a set of classes, as a test
abbrev pub Classes : Type 0
Classes = Class → Bool

-- a class by itself
abbrev pub only : Class → Classes
only a b = nat_eq (class_number a) (class_number b)

abbrev pub one_of : List Class → Classes
one_of [] c = false
one_of (a ∷ others) c = only a c || one_of others c

abbrev pub nothing : Classes
nothing c = false

abbrev pub either : Classes → Classes → Classes
either a b c = a c || b c

-- some class is in both
abbrev pub Meets : Classes → Classes → Type 0
Meets a b = (c : Class) × (a c ≡ true) × (b c ≡ true)

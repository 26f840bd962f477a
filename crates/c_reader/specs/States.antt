-- What is known where a token stands: which words are types (ISO/IEC 9899:1990, 6.1.2.1 and 6.5.6), and what the
-- declaration that stands there has so far.
use Rattle.std.specs.Prelude.{ℕ, Bool, true, false, not, ◌&&◌, List, [], ◌∷◌, ◌++◌, Option, Some, None, nat_eq, if◌then◌else◌}
use Rattle.c_tokens.specs.declared.token.Shape.{Shape}
use Rattle.c_tokens.specs.declared.token.Shape.TheVariants as shape
use Rattle.c_tokens.specs.ClassNumbers.{class_number}
use Rattle.c_tokens.specs.ClassOf.{class_of}
use Rattle.c_forms.specs.declared.pieces.Event.{Event}
use Rattle.c_forms.specs.declared.pieces.Event.TheVariants.{Enter, Leave, Begin, Typedef, Typed, SoleType, Declare, DeclareValue, Aside, Resume, Statements, Seal, Close, FunctionDue, Open, Shut}
use Rattle.c_forms.specs.Sets.{type_word}

-- ---- words

-- the beginning of a scope, with whether statements had begun outside of it; or a word that is declared, by its number
pub data Entry : Type 0 where
  Edge : Bool → Entry
  AsType : ℕ → Entry
  AsValue : ℕ → Entry

-- whether the innermost declaration of a word makes it a type; the innermost entry stands first
abbrev pub is_type : List Entry → ℕ → Bool
is_type [] word = false
is_type (Edge late ∷ outer) word = is_type outer word
is_type (AsType other ∷ outer) word = if nat_eq word other then true else is_type outer word
is_type (AsValue other ∷ outer) word = if nat_eq word other then false else is_type outer word

-- the words outside of the innermost scope
abbrev pub outside : List Entry → List Entry
outside [] = []
outside (Edge late ∷ outer) = outer
outside (_ ∷ outer) = outside outer

-- whether statements had begun there
abbrev pub late_outside : List Entry → Bool
late_outside [] = false
late_outside (Edge late ∷ outer) = late
late_outside (_ ∷ outer) = late_outside outer

-- the words that are declared in the innermost scope
abbrev pub innermost : List Entry → List Entry
innermost [] = []
innermost (Edge late ∷ outer) = []
innermost (AsType word ∷ outer) = AsType word ∷ innermost outer
innermost (AsValue word ∷ outer) = AsValue word ∷ innermost outer

-- ---- declarations

-- what stands next to a declarator's name: nothing yet, parameters with the words that they declare, or something else
pub data Near : Type 0 where
  Bare : Near
  Parameters : List Entry → Near
  Other : Near

-- what a declaration has so far
pub record Kept : Type 0 where
  -- whether `typedef` is among its specifiers
  pub is_typedef : Bool
  -- whether a type specifier is
  pub has_type : Bool
  -- whether that allows no other
  pub is_sole : Bool
  -- the word that the declarator declares
  pub name : Option ℕ
  pub near : Near
  -- whether the declarator must be a function's
  pub is_function_due : Bool

abbrev pub nothing_kept : Kept
nothing_kept = record { is_typedef = false; has_type = false; is_sole = false; name = None; near = Bare; is_function_due = false }

pub record State : Type 0 where
  -- the innermost first
  pub entries : List Entry
  -- whether the block has come to its statements
  pub is_late : Bool
  pub kept : Kept
  -- the declarations around it, the innermost first
  pub aside : List Kept

-- ---- how a token is seen

-- a token, and its class by number; a word that is a type is of a class of its own
pub record Seen : Type 0 where
  pub shape : Shape
  pub class : ℕ

abbrev pub word_class : Bool → ℕ
word_class true = type_word
word_class false = class_number (class_of (shape.Word (record { 0 = 0 })))

-- in a declaration that has its type already a word is no further type
abbrev pub class : State → Shape → ℕ
class s (shape.Word word) = word_class (not s.kept.has_type && is_type s.entries word.0)
class s x = class_number (class_of x)

abbrev pub seen : State → Shape → Seen
seen s x = record { shape = x; class = class s x }

-- ---- what happens

abbrev pub sealed : Near → Near
sealed Bare = Other
sealed near = near

abbrev pub with_parameters : List Entry → Near → Near
with_parameters words Bare = Parameters words
with_parameters words near = near

abbrev pub parameters : Near → List Entry
parameters (Parameters words) = words
parameters near = []

abbrev pub has_parameters : Near → Bool
has_parameters (Parameters words) = true
has_parameters near = false

abbrev pub is_bare : Near → Bool
is_bare Bare = true
is_bare near = false

-- whether the declarator is a function's
abbrev pub is_function : State → Bool
is_function s = has_parameters s.kept.near

abbrev pub entry : Bool → ℕ → Entry
entry true word = AsType word
entry false word = AsValue word

abbrev pub declared : (ℕ → Entry) → Option ℕ → List Entry → List Entry
declared makes (Some word) words = makes word ∷ words
declared makes None words = words

abbrev pub top : List Kept → Kept
top [] = nothing_kept
top (kept ∷ others) = kept

abbrev pub under : List Kept → List Kept
under [] = []
under (kept ∷ others) = others

abbrev pub happens : Event → State → State
happens Enter s = record s { entries = Edge s.is_late ∷ s.entries; is_late = false }
happens Leave s = record s { entries = outside s.entries; is_late = late_outside s.entries }
happens Begin s = record s { kept = nothing_kept }
happens Typedef s = record s { kept = record s.kept { is_typedef = true } }
happens Typed s = record s { kept = record s.kept { has_type = true } }
happens SoleType s = record s { kept = record s.kept { has_type = true; is_sole = true } }
happens Declare s = record s { entries = declared (entry s.kept.is_typedef) s.kept.name s.entries }
happens DeclareValue s = record s { entries = declared AsValue s.kept.name s.entries }
happens Aside s = record s { kept = nothing_kept; aside = s.kept ∷ s.aside }
happens Resume s = record s { kept = top s.aside; aside = under s.aside }
happens Statements s = record s { is_late = true }
happens Seal s = record s { kept = record s.kept { near = sealed s.kept.near } }
happens Close s = record s { entries = outside s.entries; is_late = late_outside s.entries; kept = record (top s.aside) { near = with_parameters (innermost s.entries) (top s.aside).near }; aside = under s.aside }
happens FunctionDue s = record s { kept = record s.kept { is_function_due = true } }
happens Open s = record s { entries = parameters s.kept.near ++ (Edge s.is_late ∷ declared AsValue s.kept.name s.entries); is_late = false; kept = nothing_kept }
happens Shut s = record s { entries = outside s.entries; is_late = late_outside s.entries; kept = nothing_kept }

abbrev pub number_of : Shape → ℕ
number_of (shape.Word word) = word.0
number_of _ = 0

-- after the declarator's name, and nothing stands next to it yet
abbrev pub noted : Shape → State → State
noted x s = record s { kept = record s.kept { name = Some (number_of x); near = Bare } }

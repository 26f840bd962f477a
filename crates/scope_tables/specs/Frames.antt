-- Scopes with the words that are declared in them (ISO/IEC 9899:1990, 6.1.2.1).
use Rattle.std.specs.Prelude.{ℕ, ◌+◌, Bool, true, false, List, [], ◌∷◌, length, Option, Some, None, nat_eq, unwrap_or}
use Rattle.std.specs.Map.{lookup}
use Rattle.c_tokens.specs.declared.token.Word.{Word}
use Rattle.scope_tables.specs.declared.table.WordClass.{WordClass}
use Rattle.scope_tables.specs.declared.table.WordClass.TheVariants.{TypeName, Value}

-- the declarations of a scope, the latest first: a word, by its number, and what it is declared as
abbrev pub Frame : Type 0
Frame = List (ℕ × WordClass)

abbrev pub class_named : Bool → WordClass
class_named true = TypeName
class_named false = Value

abbrev pub or_else : Option WordClass → Option WordClass → Option WordClass
or_else (Some class) outer = Some class
or_else None outer = outer

-- what the latest declaration of a word within the innermost scope that has one declares it as
abbrev pub class_among : ℕ → List Frame → Option WordClass
class_among word [] = None
class_among word (frame ∷ outer) = or_else (lookup (nat_eq word) frame) (class_among word outer)

-- a word without a declaration is a value
abbrev pub class_of : ℕ → List Frame → WordClass
class_of word frames = unwrap_or (class_among word frames) Value

-- the scopes after one is entered
abbrev pub entered : List Frame → List Frame
entered frames = [] ∷ frames

-- the scopes after the innermost is left
abbrev pub left : List Frame → List Frame
left [] = []
left (frame ∷ outer) = outer

-- the scopes after a word is declared in the innermost
abbrev pub declared : ℕ → WordClass → List Frame → List Frame
declared word class [] = []
declared word class (frame ∷ outer) = ((word, class) ∷ frame) ∷ outer

-- whether nothing is declared in the innermost scope
abbrev pub is_bare : List Frame → Bool
is_bare ((declaration ∷ frame) ∷ outer) = false
is_bare _ = true

-- the scopes before the last declaration in the innermost, or where there is none, before it was entered
abbrev pub undone : List Frame → List Frame
undone ((declaration ∷ frame) ∷ outer) = frame ∷ outer
undone frames = left frames

-- how many steps led from one empty scope to these
abbrev pub steps_in : List Frame → ℕ
steps_in [] = 0
steps_in (frame ∷ []) = length frame
steps_in (frame ∷ inner ∷ outer) = length frame + 1 + steps_in (inner ∷ outer)

-- the declarations of the innermost scope
abbrev pub innermost : List Frame → Frame
innermost [] = []
innermost (frame ∷ outer) = frame

-- the words of declarations
abbrev pub words_in : Frame → List (Word × WordClass)
words_in [] = []
words_in ((word, class) ∷ frame) = (record { 0 = word }, class) ∷ words_in frame

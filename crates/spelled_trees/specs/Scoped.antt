-- What reading a tree of a sort does to the words in scope.
use Rattle.std.specs.Prelude.{◌≡◌, Bool, true, false, List, [], ◌∷◌, ◌++◌}
use Rattle.c_forms.specs.declared.pieces.Sort.{Sort}
use Rattle.c_forms.specs.declared.pieces.Sort.TheVariants as s
use Rattle.c_reader.specs.States.{Entry, Edge, AsType, AsValue, State, Kept, parameters}

-- whether no scope begins among them
abbrev pub are_words : List Entry → Bool
are_words [] = true
are_words (Edge late ∷ outer) = false
are_words (AsType word ∷ outer) = are_words outer
are_words (AsValue word ∷ outer) = are_words outer

-- words that are declared in the innermost scope
pub record Grown (old new : List Entry) : Type 0 where
  pub words : List Entry
  pub are : are_words words ≡ true
  pub value : new ≡ words ++ old

-- after an item of a block a declaration may be too late
abbrev pub keeps_late : Sort → Bool
keeps_late s.BlockItem = false
keeps_late due = true

-- No scope is left, and none is entered that is not left again.
pub record Scoped (due : Sort) (old new : State) : Type 0 where
  pub entries : Grown old.entries new.entries
  pub late : keeps_late due ≡ true → new.is_late ≡ old.is_late

-- a declarator with a name has the words of its parameters next to it
abbrev pub Parametered : Sort → Kept → Type 0
Parametered s.Declarator kept = are_words (parameters kept.near) ≡ true
Parametered due kept = Unit {0}

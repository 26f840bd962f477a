-- Scopes of variables with their types, the innermost first. A variable is known by the number of its word.
use Rattle.std.specs.Prelude.{ℕ, List, [], ◌∷◌, ◌++◌, Option, Some, None, nat_eq}
use Rattle.std.specs.Map.{lookup}
use Rattle.c_tokens.specs.declared.kind.MetaType.{MetaType}

-- a scope: its variables in the order of their declaration
abbrev pub Scope : Type 0
Scope = List (ℕ × MetaType)

-- the type that a scope gives a variable
abbrev pub type_within : ℕ → Scope → Option MetaType
type_within word scope = lookup (nat_eq word) scope

abbrev pub or_else : Option MetaType → Option MetaType → Option MetaType
or_else (Some t) outer = Some t
or_else None outer = outer

-- the type of the innermost declaration of a variable
abbrev pub type_among : ℕ → List Scope → Option MetaType
type_among word [] = None
type_among word (scope ∷ outer) = or_else (type_within word scope) (type_among word outer)

-- the innermost scope
abbrev pub innermost : List Scope → Scope
innermost [] = []
innermost (scope ∷ outer) = scope

-- the scopes with one more declaration in the innermost
abbrev pub with_variable : ℕ → MetaType → List Scope → List Scope
with_variable word t [] = []
with_variable word t (scope ∷ outer) = (scope ++ (word, t) ∷ []) ∷ outer

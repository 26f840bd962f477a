-- A declaration keeps the number of scopes.
use Rattle.std.proofs.Common.{◌≡◌, refl, ℕ, List, [], ◌∷◌, length}
use Rattle.c_tokens.specs.declared.kind.MetaType.{MetaType}
use Rattle.meta_types.specs.Scopes.{Scope, with_variable}

pub length-with_variable : (word : ℕ) (t : MetaType) (scopes : List Scope) → length (with_variable word t scopes) ≡ length scopes
length-with_variable word t [] = refl
length-with_variable word t (scope ∷ outer) = refl

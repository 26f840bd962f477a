-- The scopes of the program's tables.
use Rattle.std.specs.Prelude.{ℕ, List, map, reverse}
use Rattle.c_tokens.specs.declared.kind.MetaType.{MetaType}
use Rattle.indexmap.specs.IndexMap.{IndexMap}
use Rattle.meta_types.specs.Scopes.{Scope}

-- tables of which the last is innermost
abbrev pub frames : {S : Type 0} → List (IndexMap ℕ MetaType S) → List Scope
frames tables = reverse (map (λ table. table.entries) tables)

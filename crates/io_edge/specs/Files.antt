use Rattle.std.specs.Prelude.{ℕ, List, Option, Some, None}

-- The bytes of each file by its name, where a shelf tells them.
abbrev pub Files : Type 0
Files = Option (List ℕ → Option (List ℕ))

-- What is told of the file of this name: nothing, that there is none, or its bytes.
abbrev pub file_at : Files → List ℕ → Option (Option (List ℕ))
file_at None name = None
file_at (Some find) name = Some (find name)

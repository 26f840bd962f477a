-- The macros of the program's table.
use Rattle.std.specs.Prelude.{ℕ, List, map}
use Rattle.macro_table.specs.declared.table.Entry.{Entry}
use Rattle.macro_table.specs.Macros.{Macro}

abbrev pub macros_in : List (ℕ × Entry) → List Macro
macros_in rows = map (λ row. record { name = row.0; result = row.1.result; fit = row.1.fit }) rows

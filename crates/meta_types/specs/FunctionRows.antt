-- The functions of the program's table.
use Rattle.std.specs.Prelude.{ℕ, List, map}
use Rattle.meta_types.specs.declared.functions.Types.{Types}
use Rattle.meta_types.specs.FunctionTable.{Function}

abbrev pub functions_in : List (ℕ × Types) → List Function
functions_in rows = map (λ row. record { name = row.0; params = row.1.params.items; result = row.1.result }) rows

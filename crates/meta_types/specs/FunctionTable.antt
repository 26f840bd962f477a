-- Functions with the types of their parameters and results, in the order of their numbers.
use Rattle.std.specs.Prelude.{ℕ, List, Option, position, nat_eq}
use Rattle.c_tokens.specs.declared.kind.MetaType.{MetaType}

-- The name is the number of its word.
pub record Function : Type 0 where
  pub name : ℕ
  pub params : List MetaType
  pub result : MetaType

abbrev pub function : ℕ → List MetaType → MetaType → Function
function name params result = record { name = name; params = params; result = result }

-- the number of the function of a name
abbrev pub number_of : ℕ → List Function → Option ℕ
number_of name functions = position (λ function. nat_eq name function.name) functions

-- Macros with their results and patterns, in the order of their numbers.
use Rattle.std.specs.Prelude.{ℕ, List, Option, position, nat_eq}
use Rattle.c_tokens.specs.declared.kind.MetaType.{MetaType}
use Rattle.pattern_language.specs.declared.fit.Fit.{Fit}

-- The name is the number of its word.
pub record Macro : Type 0 where
  pub name : ℕ
  pub result : MetaType
  pub fit : Fit

abbrev pub macro_of : ℕ → MetaType → Fit → Macro
macro_of name result fit = record { name = name; result = result; fit = fit }

-- the number of the macro of a name
abbrev pub number_of : ℕ → List Macro → Option ℕ
number_of name macros = position (λ m. nat_eq name m.name) macros

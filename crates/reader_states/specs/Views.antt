-- The state by what is kept of it.
use Rattle.std.specs.Prelude.{ℕ, List, map, reverse, option_map}
use Rattle.c_tokens.specs.declared.token.Word.{Word}
use Rattle.c_reader.specs.States.{Near as SpecNear, Kept as SpecKept}
use Rattle.c_reader.specs.States.Near.{Bare as NothingNear, Parameters as ParametersNear, Other as OtherNear}
use Rattle.reader_states.specs.declared.kept.Near.{Near}
use Rattle.reader_states.specs.declared.kept.Near.TheVariants.{Bare, Parameters, Other}
use Rattle.reader_states.specs.declared.kept.Kept.{Kept}
use Rattle.reader_states.specs.Scopes.{entries_at}

abbrev pub near_of : Near → SpecNear
near_of Bare = NothingNear
near_of (Parameters words) = ParametersNear (entries_at words.items)
near_of Other = OtherNear

abbrev pub number : Word → ℕ
number word = word.0

abbrev pub kept_of : Kept → SpecKept
kept_of k = record { is_typedef = k.is_typedef; has_type = k.has_type; is_sole = k.is_sole; name = option_map number k.name; near = near_of k.near; is_function_due = k.is_function_due }

-- the latest last
abbrev pub aside_of : List Kept → List SpecKept
aside_of kept = map kept_of (reverse kept)

-- An attempt to read: what is known where a token stands, and the scopes as they stood before.
use Rattle.std.specs.Prelude.{List, [], false}
use Rattle.c_tokens.specs.declared.token.Shape.{Shape}
use Rattle.c_forms.specs.declared.pieces.Event.{Event}
use Rattle.scope_tables.specs.declared.table.WordClass.{WordClass}
use Rattle.scope_tables.specs.Frames.{Frame}
use Rattle.c_reader.specs.States.{State, happens, noted, nothing_kept, declared}
use Rattle.reader_states.specs.Scopes.{entries_of, entry_as}

pub record Attempt : Type 0 where
  pub state : State
  -- the scopes before the first token
  pub before : List Frame

-- before the first token: no declaration stands there, and no statements have begun
abbrev pub begun : List Frame → Attempt
begun frames = record { state = record { entries = entries_of frames []; is_late = false; kept = nothing_kept; aside = [] }; before = frames }

abbrev pub happened : Event → Attempt → Attempt
happened event a = record a { state = happens event a.state }

abbrev pub has_noted : Shape → Attempt → Attempt
has_noted x a = record a { state = noted x a.state }

-- after the declarator's name is declared in the innermost scope
abbrev pub has_declared : WordClass → Attempt → Attempt
has_declared class a = record a { state = record a.state { entries = declared (entry_as class) a.state.kept.name a.state.entries } }

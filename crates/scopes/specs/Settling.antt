-- The scopes after events, and the first event that does not hold.
use Rattle.std.specs.Prelude.{◌≡◌, Bool, true, false, List, [], ◌∷◌, if◌then◌else◌}
use Rattle.c_tokens.specs.declared.span.Span.{Span}
use Rattle.c_tokens.specs.declared.token.Word.{Word}
use Rattle.scope_tables.specs.declared.table.WordClass.{WordClass}
use Rattle.scope_tables.specs.declared.table.WordClass.TheVariants.{TypeName, Value}
use Rattle.scopes.specs.declared.event.Event.{Event}
use Rattle.scopes.specs.declared.event.Event.TheVariants.{Enter, Leave, Must, Declare}
use Rattle.scopes.specs.declared.event.WalkStop.{WalkStop}
use Rattle.scopes.specs.declared.event.WalkStop.TheVariants.{Clash, Memory}
use Rattle.scope_tables.specs.Frames.{Frame, class_of, entered, left, declared}

abbrev pub is_same : WordClass → WordClass → Bool
is_same TypeName TypeName = true
is_same Value Value = true
is_same _ _ = false

-- Where every event holds, the scopes after them. Otherwise the first word that has another class than it must have,
-- with the class that it must have, the one that it has, and its place.
pub data Settled : Type 0 where
  Scoped : List Frame → Settled
  Clashes : Word → WordClass → WordClass → Span → Settled

abbrev pub settled : List Event → List Frame → Settled
settled [] frames = Scoped frames
settled (Enter ∷ others) frames = settled others (entered frames)
settled (Leave ∷ others) frames = settled others (left frames)
settled (Declare word class ∷ others) frames = settled others (declared word.0 class frames)
settled (Must word wanted span ∷ others) frames = if is_same wanted (class_of word.0 frames) then settled others frames else Clashes word wanted (class_of word.0 frames) span

-- why a walk stops, by what the events come to; want of memory may come at any
abbrev pub Stops : WalkStop → Settled → Type 0
Stops (Clash word wanted found span) answer = answer ≡ Clashes word wanted found span
Stops Memory answer = Unit {0}

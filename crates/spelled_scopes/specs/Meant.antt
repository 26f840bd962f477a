-- What the state of a reader means to the scopes, and what trees side by side do to it.
use Rattle.std.specs.Prelude.{◌≡◌, ℕ, List, [], ◌∷◌}
use Rattle.c_forms.specs.Forests.{Plain, forest}
use Rattle.c_reader.specs.States.{Entry, Edge, AsType, AsValue, State}
use Rattle.scope_tables.specs.declared.table.WordClass.{WordClass}
use Rattle.scope_tables.specs.declared.table.WordClass.TheVariants.{TypeName, Value}
use Rattle.scope_tables.specs.Frames.{Frame, entered, declared}
use Rattle.scope_meanings.specs.declared.meaning.NameUse.{NameUse}
use Rattle.scopes.specs.declared.event.Event.{Event}
use Rattle.scopes.specs.declared.event.Event.TheVariants.{Declare}
use Rattle.scopes.specs.Events.{in_order, each, words}
use Rattle.scopes.specs.Settling.{Scoped, settled}

-- the scopes that entries mean; outside of all edges is the scope of the file
abbrev pub frames : List Entry → List Frame
frames [] = [] ∷ []
frames (Edge late ∷ outer) = entered (frames outer)
frames (AsType word ∷ outer) = declared word TypeName (frames outer)
frames (AsValue word ∷ outer) = declared word Value (frames outer)

abbrev pub entry_as : WordClass → ℕ → Entry
entry_as TypeName word = AsType word
entry_as Value word = AsValue word

-- the entries after declarations, the last in front
abbrev pub after_words : List Event → List Entry → List Entry
after_words [] entries = entries
after_words (Declare word class ∷ others) entries = after_words others (entry_as class word.0 ∷ entries)
after_words (_ ∷ others) entries = after_words others entries

-- From one state to another these events hold and lead to what is known there; the words are declared in the innermost
-- scope, and what was put aside is as before.
pub record Runs (events words : List Event) (s u : State) : Type 0 where
  pub scoped : settled events (frames s.entries) ≡ Scoped (frames u.entries)
  pub declared : u.entries ≡ after_words words s.entries
  pub aside : u.aside ≡ s.aside

abbrev pub events_in : NameUse → List Plain → List Event
events_in used ts = in_order (each used (forest ts))

abbrev pub words_in : NameUse → List Plain → List Event
words_in used ts = words used (forest ts)

-- what trees side by side ask and declare, where names are used so
abbrev pub Goes : NameUse → List Plain → State → State → Type 0
Goes used ts s u = Runs (events_in used ts) (words_in used ts) s u

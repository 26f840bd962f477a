-- The words that are known where a token stands, over the scopes of a table.
use Rattle.std.specs.Prelude.{ℕ, zero, suc, ◌+◌, ◌-◌, ◌<◌, ◌≤◌, ◌≡◌, Bool, false, List, [], ◌∷◌, ◌++◌, length, Option, Some, None}
use Rattle.c_tokens.specs.declared.token.Word.{Word}
use Rattle.scope_tables.specs.declared.table.WordClass.{WordClass}
use Rattle.scope_tables.specs.declared.table.WordClass.TheVariants.{TypeName, Value}
use Rattle.scope_tables.specs.Frames.{Frame, undone, steps_in}
use Rattle.c_reader.specs.States.{Entry, outside, late_outside}
use Rattle.c_reader.specs.States.Entry.{Edge, AsType, AsValue}

abbrev pub entry_as : WordClass → ℕ → Entry
entry_as TypeName word = AsType word
entry_as Value word = AsValue word

-- the declarations of a scope
abbrev pub entries_in : Frame → List Entry
entries_in [] = []
entries_in ((word, class) ∷ frame) = entry_as class word ∷ entries_in frame

abbrev pub first_late : List Bool → Bool
first_late [] = false
first_late (late ∷ outer) = late

abbrev pub lates_outside : List Bool → List Bool
lates_outside [] = []
lates_outside (late ∷ outer) = outer

-- The entries of scopes, and whether statements had begun outside of each, the innermost first. They had not begun
-- where nothing is said.
abbrev pub entries_of : List Frame → List Bool → List Entry
entries_of [] lates = []
entries_of (frame ∷ []) lates = entries_in frame
entries_of (frame ∷ inner ∷ outer) lates = entries_in frame ++ Edge (first_late lates) ∷ entries_of (inner ∷ outer) (lates_outside lates)

-- the entries of words
abbrev pub entries_at : List (Word × WordClass) → List Entry
entries_at [] = []
entries_at ((word, class) ∷ words) = entry_as class word.0 ∷ entries_at words

-- what is known of words where a token stands, and the scopes that stood before the first of them
pub record Known : Type 0 where
  pub entries : List Entry
  pub is_late : Bool
  pub before : List Frame

abbrev pub entered : Known → Known
entered s = record s { entries = Edge s.is_late ∷ s.entries; is_late = false }

abbrev pub left : Known → Known
left s = record s { entries = outside s.entries; is_late = late_outside s.entries }

abbrev pub with_entries : List Entry → Known → Known
with_entries entries s = record s { entries = entries ++ s.entries }

-- ---- how they are kept

-- the scopes after the innermost is left; the outermost becomes empty
abbrev pub outer_of : List Frame → List Frame
outer_of [] = []
outer_of (frame ∷ []) = [] ∷ []
outer_of (frame ∷ inner ∷ outer) = inner ∷ outer

-- the scopes so many steps before
abbrev pub back : ℕ → List Frame → List Frame
back zero frames = frames
back (suc steps) frames = back steps (undone frames)

-- the scopes when so many steps had led to them
abbrev pub back_to : ℕ → List Frame → List Frame
back_to steps frames = back (steps_in frames - steps) frames

-- the scopes that stood before: those put by, or those that so many steps had led to
abbrev pub before_in : Option (List Frame) → ℕ → List Frame → List Frame
before_in (Some before) steps frames = before
before_in None steps frames = back_to steps frames

-- where none are put by, all steps that had led to those are still there, and each scope since has its edge
pub record IsOver (steps edges : ℕ) (frames : List Frame) : Type 0 where
  pub within : steps ≤ steps_in frames
  pub scopes : edges + length (back_to steps frames) ≡ length frames
  pub some : 0 < length (back_to steps frames)

abbrev pub IsKept : Option (List Frame) → ℕ → ℕ → List Frame → Type 0
IsKept (Some before) steps edges frames = edges < length frames
IsKept None steps edges frames = IsOver steps edges frames

-- the innermost scope may be left
abbrev pub MayLeave : Option (List Frame) → ℕ → Type 0
MayLeave (Some before) edges = Unit {0}
MayLeave None edges = 0 < edges

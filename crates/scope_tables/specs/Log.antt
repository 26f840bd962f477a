-- What the table of words keeps. Steps are taken from the last one on.
use Rattle.std.specs.Prelude.{◌≡◌, ℕ, List, [], ◌∷◌, IsSome, nat_eq, unwrap_or}
use Rattle.std.specs.Map.{lookup}
use Rattle.scope_tables.specs.declared.table.WordClass.{WordClass}
use Rattle.scope_tables.specs.declared.table.WordClass.TheVariants.{Value}
use Rattle.scope_tables.specs.declared.table.Step.{Step}
use Rattle.scope_tables.specs.declared.table.Step.TheVariants.{Entered, Declared}
use Rattle.scope_tables.specs.Frames.{Frame, class_of, entered, declared}

-- the scopes that steps lead to
abbrev pub frames_from : List Step → List Frame
frames_from [] = [] ∷ []
frames_from (Entered ∷ older) = entered (frames_from older)
frames_from (Declared word class before ∷ older) = declared word class (frames_from older)

-- each declaration has what its word was before, and the table has the word
abbrev pub AreKept : List (ℕ × WordClass) → List Step → Type 0
AreKept entries [] = Unit {0}
AreKept entries (Entered ∷ older) = AreKept entries older
AreKept entries (Declared word class before ∷ older) = (before ≡ class_of word (frames_from older)) × IsSome (lookup (nat_eq word) entries) × AreKept entries older

-- the table gives each word the class that it has by the steps
pub record IsKept (entries : List (ℕ × WordClass)) (steps : List Step) : Type 0 where
  pub classes : (word : ℕ) → unwrap_or (lookup (nat_eq word) entries) Value ≡ class_of word (frames_from steps)
  pub befores : AreKept entries steps

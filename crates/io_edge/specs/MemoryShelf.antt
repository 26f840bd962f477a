use Rattle.std.specs.Prelude.{◌≡◌, ◌≢◌, ℕ, ◌<◌, ◌≤◌, List, [], ◌∷◌, length, take, drop, Contains, slice_index_or, Option, Some, None, unwrap_or, if◌then◌else◌}
use Rattle.std.specs.Str.{bytes_eq}
use Rattle.io_edge.specs.Faults.{one_more}
use Rattle.io_edge.specs.declared.files.File.{File}
use Rattle.io_edge.specs.declared.files.Reading.{Reading}

-- A shelf in memory: its files, the bytes left of the picked one, the most that it gives in one read,
-- the numbers of the calls that fail, and how many calls and faults there were.
pub record ShelfState : Type 0 where
  pub files : List File
  pub left : Option (List ℕ)
  pub most : ℕ
  pub failing : List ℕ
  pub calls : ℕ
  pub faults : ℕ

-- the bytes of the first file of this name
abbrev pub file_named : List File → List ℕ → Option (List ℕ)
file_named [] name = None
file_named (file ∷ files) name = if bytes_eq file.name name then Some file.bytes else file_named files name

-- the bytes left of the picked file, none where no file is picked
abbrev pub bytes_left : ShelfState → List ℕ
bytes_left shelf = unwrap_or shelf.left []

-- the next call has the number of one that fails
abbrev pub FailsNext : ShelfState → Type 0
FailsNext shelf = Contains shelf.failing (one_more shelf.calls)

-- the shelf after a call that left these bytes of the picked file
abbrev pub after_call : ShelfState → Option (List ℕ) → ShelfState
after_call shelf left = record shelf { left = left; calls = one_more shelf.calls }

-- the same after a call that failed
abbrev pub after_fault : ShelfState → Option (List ℕ) → ShelfState
after_fault shelf left = record shelf { left = left; calls = one_more shelf.calls; faults = one_more shelf.faults }

-- The new files have these bytes under the name, and are otherwise the old ones.
pub record Puts (old : List File) (name bytes : List ℕ) (new : List File) : Type 0 where
  pub there : file_named new name ≡ Some bytes
  pub others : (other : List ℕ) → other ≢ name → file_named new other ≡ file_named old other

-- the first file of this name stands at this place
pub record IsFirstNamed (files : List File) (name : List ℕ) (place : ℕ) : Type 0 where
  pub within : place < length files
  pub named : (other : File) → (slice_index_or files place other).name ≡ name
  pub first : file_named (take place files) name ≡ None

-- the bytes of the file at this place
abbrev pub bytes_at : List File → ℕ → List ℕ
bytes_at files place = (slice_index_or files place (record { name = []; bytes = [] })).bytes

-- the bytes that a reading has still before it
abbrev pub left_of : List File → Option Reading → Option (List ℕ)
left_of files None = None
left_of files (Some reading) = Some (drop reading.start (bytes_at files reading.place))

-- a reading is of a file that is there, and not past its end
abbrev pub IsReadingOf : List File → Option Reading → Type 0
IsReadingOf files None = Unit {0}
IsReadingOf files (Some reading) = (reading.place < length files) × (reading.start ≤ length (bytes_at files reading.place))

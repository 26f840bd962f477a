use Rattle.std.specs.Prelude.{ℕ, List, [], Option, unwrap_or}
use Rattle.io_edge.specs.declared.files.File.{File}

-- A shelf in memory that never fails: its files, the bytes left of the picked one, and the most that it
-- gives in one read.
pub record SureState : Type 0 where
  pub files : List File
  pub left : Option (List ℕ)
  pub most : ℕ

-- the bytes left of the picked file, none where no file is picked
abbrev pub bytes_left : SureState → List ℕ
bytes_left sure = unwrap_or sure.left []

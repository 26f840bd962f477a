use Rattle.std.proofs.Common.{◌≡◌, None, take}
use Rattle.io_edge.specs.MemoryShelf.{file_named}
use Rattle.io_edge.proofs.files.find_file.Given as goal

-- no file of the name stood before
abbrev pub invariant-loop-place : goal.invariant-loop-place
invariant-loop-place l = file_named (take l.place l.files) l.name ≡ None

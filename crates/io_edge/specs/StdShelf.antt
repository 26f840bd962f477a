use Rattle.std.specs.Prelude.{ℕ, Bool, true, false}
use Rattle.io_edge.specs.declared.std_shelf.Source.{Source}
use Rattle.io_edge.specs.declared.std_shelf.Source.TheVariants.{Nothing, File, Input}

-- The files of the system: whether one is picked, and how many faults there were.
pub record StdState : Type 0 where
  pub picked : Bool
  pub faults : ℕ

-- something is picked
abbrev pub is_source : {F R : Type 0} → Source F R → Bool
is_source Nothing = false
is_source (File file) = true
is_source (Input reader) = true

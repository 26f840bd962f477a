-- Drafts of which trees can be made.
use Rattle.std.specs.Prelude.{◌≡◌, ◌≤◌, true}
use Rattle.c_forms.specs.Forests.{Plain}
use Rattle.c_trees.specs.Counts.{high_tree}
use Rattle.c_trees.specs.Valid.{valid_tree}

-- valid and not too high
pub record IsRight (t : Plain) : Type 0 where
  pub valid : valid_tree t ≡ true
  pub low : high_tree t ≤ 1000

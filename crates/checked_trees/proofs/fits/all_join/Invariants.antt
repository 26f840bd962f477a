use Rattle.std.proofs.Common.{◌≡◌, drop}
use Rattle.c_forms.specs.Fits.{all_join}
use Rattle.c_forms.specs.Forests.{forest}
use Rattle.checked_trees.proofs.fits.all_join.Given as goal

abbrev pub invariant-loop-one : goal.invariant-loop-one
invariant-loop-one l = all_join l.due (forest (drop l.one-index l.all)) ≡ all_join l.due (forest l.all)

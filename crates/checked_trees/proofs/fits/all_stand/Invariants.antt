use Rattle.std.proofs.Common.{◌≡◌, drop}
use Rattle.c_forms.specs.Fits.{all_stand}
use Rattle.c_forms.specs.Forests.{forest}
use Rattle.checked_trees.proofs.fits.all_stand.Given as goal

abbrev pub invariant-loop-one : goal.invariant-loop-one
invariant-loop-one l = all_stand l.due (forest (drop l.one-index l.all)) ≡ all_stand l.due (forest l.all)

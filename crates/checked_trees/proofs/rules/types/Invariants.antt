use Rattle.std.proofs.Common.{◌≡◌, ◌+◌, ◌≤◌, drop}
use Rattle.c_forms.specs.Forests.{forest}
use Rattle.c_forms.specs.Rules.{types}
use Rattle.checked_trees.proofs.rules.types.Given as goal

abbrev pub invariant-loop-one : goal.invariant-loop-one
invariant-loop-one l = record {
  counted : l.count + types (forest (drop l.one-index l.all)) ≡ types (forest l.all);
  few : l.count ≤ l.one-index;
}

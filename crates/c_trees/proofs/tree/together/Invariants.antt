use Rattle.std.proofs.Common.{◌≡◌, ◌≤◌, ◌+◌, ◌<◌, ◌^◌, ◌&&◌, max, drop}
use Rattle.c_forms.specs.Forests.{forest}
use Rattle.c_trees.specs.Counts.{capped, count, high, pure}
use Rattle.c_trees.specs.Valid.{valid}
use Rattle.c_trees.proofs.tree.together.Given as goal

abbrev pub invariant-loop-one : goal.invariant-loop-one
invariant-loop-one l = record {
  size : capped (l.size + count (forest (drop l.one-index l.all))) ≡ capped (count (forest l.all));
  height : max l.height (high (forest (drop l.one-index l.all))) ≡ high (forest l.all);
  low : l.height ≤ 1000;
  valid : valid (forest (drop l.one-index l.all)) ≡ valid (forest l.all);
  fits : l.size < 2 ^ 64;
  pure : (l.is_pure && pure (forest (drop l.one-index l.all))) ≡ pure (forest l.all);
}

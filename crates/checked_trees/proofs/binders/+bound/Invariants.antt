use Rattle.std.proofs.Common.{◌≡◌, ◌++◌, ◌≤◌, drop}
use Rattle.pattern_language.specs.Patterns.{pattern_of}
use Rattle.c_forms.specs.Forests.{forest}
use Rattle.checked_trees.specs.Bindings.{bound_to, in_rounds, has_one_part}
use Rattle.checked_trees.proofs.binders.+bound.Given as goal

abbrev pub invariant-bound_to-loop-element : goal.invariant-bound_to-loop-element
invariant-bound_to-loop-element l = record {
  same : bound_to (pattern_of (drop l.element-index l.pattern)) l.left (forest l.rest) ≡ bound_to (pattern_of l.pattern) l.number (forest l.parts);
  less : l.left ≤ l.number;
}

abbrev pub invariant-in_list-loop-round : goal.invariant-in_list-loop-round
invariant-in_list-loop-round l =
    l.all ++ in_rounds (λ qs. bound_to (pattern_of l.body) l.number qs) (has_one_part (pattern_of l.body)) (forest (drop l.round-index l.round-items))
    ≡ in_rounds (λ qs. bound_to (pattern_of l.body) l.number qs) (has_one_part (pattern_of l.body)) (forest l.round-items)

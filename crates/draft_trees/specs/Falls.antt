-- A draft is deeper than each of its parts.
use Rattle.std.specs.Prelude.{◌+◌, ◌≤◌, max, List, [], ◌∷◌}
use Rattle.std.proofs.Common.{arith}
use denote.Param.Weighed.{most}
use Rattle.draft_trees.specs.declared.draft.Held.{Held}
use Rattle.draft_trees.specs.declared.draft.Held.TheVariants as held
use Rattle.draft_trees.specs.declared.drafts.Few.{Few}
use Rattle.draft_trees.specs.declared.drafts.Few.TheVariants as few
use Rattle.draft_trees.specs.declared.draft.Draft.TheDeep.{deep-Few, deep-Held}
use Rattle.c_forms.specs.Forests.{Plain}
use Rattle.c_trees.specs.Deep.{deep_whole, deep_parts}
use Rattle.draft_trees.specs.Few.{few_list}
use Rattle.draft_trees.specs.Views.{plain}

most-deep : (ts : List Plain) → most (λ t. deep_whole t + 1) ts ≤ deep_parts ts
most-deep [] = omega arith
most-deep (t ∷ ts) = omega (arith, most-deep ts)

pub parts_fall : (f : Few) → max (deep-Few f) 0 ≤ deep_parts (few_list f)
parts_fall few.None = omega arith
parts_fall (few.One ts) = omega (arith, most-deep ts)
parts_fall (few.Two ts) = omega (arith, most-deep ts)
parts_fall (few.Many ts) = omega (arith, most-deep ts)

pub falls : (h : Held) → max (deep-Held h) 0 ≤ deep_whole (plain h)
falls (held.Leaf f s) = omega arith
falls (held.Branch b) = omega arith

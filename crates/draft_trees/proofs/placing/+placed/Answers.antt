use Rattle.std.proofs.Common.{rules, ap}
use Rattle.c_trees.specs.Deep.{deep}
use Rattle.c_trees.specs.Depths.{most_deep}
use Rattle.draft_trees.proofs.Rights.{right_parts}
use Rattle.draft_trees.proofs.placing.+placed.Goals as goal

pub placed-placed_parts-requires : goal.placed-placed_parts-requires
placed-placed_parts-requires t c = let ts = c.parts.result.now in
    let deep_alike = most_deep ts in
    let parts_alike = ap deep c.parts.ensures in
    (search (rules, deep_alike, parts_alike), right_parts c.args.draft.now ts c.parts.ensures c.requires)

use Rattle.std.proofs.Common.{◌≡◌, ◌+◌, ◌*◌, map, take}
use denote.Param.Weighed.{most}
use Rattle.c_trees.specs.Deep.{deep_tree}
use Rattle.draft_trees.specs.Placing.{placed}
use Rattle.draft_trees.proofs.placing.+placed.Given as goal

abbrev pub invariant-placed_parts-loop-draft : goal.invariant-placed_parts-loop-draft
invariant-placed_parts-loop-draft l = l.parts ≡ map (placed l.tokens) (take l.draft-index l.all)

abbrev pub decreases-placed : goal.decreases-placed
decreases-placed l = 2 * deep_tree l.draft.now

abbrev pub decreases-placed_parts : goal.decreases-placed_parts
decreases-placed_parts l = 2 * most deep_tree l.all.now + 1

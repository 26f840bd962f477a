use Rattle.std.proofs.Common.{◌-◌, length}
use Rattle.fresh_names.specs.Names.{TakenBelow}
use Rattle.fresh_names.proofs.number.free_text.Given as goal

abbrev pub invariant-loop-text : goal.invariant-loop-text
invariant-loop-text l = TakenBelow l.base l.words l.number

abbrev pub decreases-loop-text : goal.decreases-loop-text
decreases-loop-text l = length l.words - l.number

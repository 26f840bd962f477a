use Rattle.std.proofs.Common.{◌≡◌, List}
use Rattle.scope_tables.specs.Frames.{Frame, steps_in}
use Rattle.scopes.specs.Steps.{IsLater}
use Rattle.scopes.proofs.scopes.back_to.Given as goal

abbrev pub invariant-loop-table : goal.invariant-loop-table
invariant-loop-table l = (old : List Frame) → IsLater old l.initial.table → steps_in old ≡ l.steps → IsLater old l.table

abbrev pub decreases-loop-table : goal.decreases-loop-table
decreases-loop-table l = steps_in l.table

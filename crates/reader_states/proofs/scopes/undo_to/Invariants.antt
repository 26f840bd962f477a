use Rattle.std.proofs.Common.{◌≡◌}
use Rattle.scope_tables.specs.Frames.{steps_in}
use Rattle.reader_states.specs.Scopes.{back_to}
use Rattle.reader_states.proofs.scopes.undo_to.Given as goal

abbrev pub invariant-loop-table : goal.invariant-loop-table
invariant-loop-table l = back_to l.steps l.table ≡ back_to l.steps l.initial.table

abbrev pub decreases-loop-table : goal.decreases-loop-table
decreases-loop-table l = steps_in l.table

use Rattle.std.proofs.Common.{◌≡◌}
use Rattle.scope_tables.specs.Frames.{steps_in}
use Rattle.reader_states.specs.Scopes.{outer_of}
use Rattle.reader_states.proofs.scopes.leave_innermost.Given as goal

abbrev pub invariant-loop-table : goal.invariant-loop-table
invariant-loop-table l = outer_of l.table ≡ outer_of l.initial.table

abbrev pub decreases-loop-table : goal.decreases-loop-table
decreases-loop-table l = steps_in l.table

use Rattle.std.proofs.Common.{◌≡◌, ◌<◌, length}
use Rattle.scope_tables.specs.Frames.{left, steps_in}
use Rattle.scope_tables.proofs.table.ScopeTable.leave.Given as goal

abbrev pub invariant-loop : goal.invariant-loop
invariant-loop l = record { deep : 1 < length l.self; same : left l.self ≡ left l.initial.self }

abbrev pub decreases-loop : goal.decreases-loop
decreases-loop l = steps_in l.self

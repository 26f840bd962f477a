use Rattle.std.proofs.Common.{◌≡◌, length}
use Rattle.scope_tables.proofs.tests.declare_all.Given as goal

abbrev pub invariant-loop-word : goal.invariant-loop-word
invariant-loop-word l = length l.table ≡ length l.initial.table

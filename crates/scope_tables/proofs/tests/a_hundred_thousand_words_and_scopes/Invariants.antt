use Rattle.std.proofs.Common.{◌<◌, length}
use Rattle.scope_tables.proofs.tests.a_hundred_thousand_words_and_scopes.Given as goal

abbrev pub invariant-loop-word : goal.invariant-loop-word
invariant-loop-word g l = 0 < length l.table

abbrev pub invariant-loop-word-2 : goal.invariant-loop-word-2
invariant-loop-word-2 g l = 0 < length l.table

use Rattle.std.proofs.Common.{◌≡◌, ◌≤◌, ◌++◌, length, take, reverse}
use Rattle.scope_tables.proofs.Kept.{words_before}
use Rattle.scope_tables.proofs.table.ScopeTable.innermost.Given as goal

abbrev pub invariant-loop-at : goal.invariant-loop-at
invariant-loop-at l = record {
  within : l.at ≤ length l.self-inside.log.items;
  same : l.words.items ++ words_before (reverse (take l.at l.self-inside.log.items)) ≡ words_before (reverse l.self-inside.log.items);
}

abbrev pub decreases-loop-at : goal.decreases-loop-at
decreases-loop-at l = l.at

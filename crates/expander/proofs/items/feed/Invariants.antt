use Rattle.std.proofs.Common.{◌-◌, length}
use Rattle.expander.proofs.Progress.{Progress}
use Rattle.expander.proofs.items.feed.Given as goal

abbrev pub invariant-items : goal.invariant-items
invariant-items l = record { progress : Progress l.tokens l.scopes l.written l.at }

abbrev pub decreases-items : goal.decreases-items
decreases-items l = length l.tokens - l.at

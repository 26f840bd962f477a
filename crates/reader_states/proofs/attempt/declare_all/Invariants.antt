use Rattle.std.proofs.Common.{◌≡◌, length}
use Rattle.reader_states.specs.Scopes.{with_entries, entries_at}
use Rattle.reader_states.proofs.attempt.declare_all.Given as goal

abbrev pub invariant-loop-word : goal.invariant-loop-word
invariant-loop-word l = with_entries (entries_at l.words.items) l.scopes ≡ with_entries (entries_at l.initial.words.items) l.initial.scopes

abbrev pub decreases-loop-word : goal.decreases-loop-word
decreases-loop-word l = length l.words.items

use Rattle.std.proofs.Common.{◌≡◌, ◌≤◌, ◌-◌, length}
use Rattle.c_tokens.specs.Literals.{is_escaped, first_met}
use Rattle.c_lexer.proofs.literals.literal_end.Given as goal

abbrev pub decreases-loop-index : goal.decreases-loop-index
decreases-loop-index l = length l.text - l.index

abbrev pub invariant-loop-index : goal.invariant-loop-index
invariant-loop-index l = record {
  from : l.start ≤ l.index;
  within : l.index ≤ length l.text;
  escaped : l.escaped ≡ is_escaped l.text l.index;
  so_far : first_met l.quote l.text l.start (length l.text - l.start) ≡ first_met l.quote l.text l.index (length l.text - l.index);
}

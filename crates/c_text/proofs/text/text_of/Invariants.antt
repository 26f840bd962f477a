use Rattle.std.proofs.Common.{◌≡◌, ◌≤◌, ◌++◌, length, drop}
use Rattle.c_text.specs.Text.{text, text_after}
use Rattle.c_text.proofs.text.text_of.Given as goal

abbrev pub invariant-loop-mark : goal.invariant-loop-mark
invariant-loop-mark l = record {
  whole : l.text.items ++ text_after l.words l.last (drop l.mark-index l.marks) ≡ text l.words l.marks;
  within : length l.text.items ≤ l.most;
}

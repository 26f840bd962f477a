use Rattle.std.proofs.Common.{◌≡◌, ◌≤◌, ◌+◌}
use Rattle.c_tokens.specs.Places.{line_at, column_at}
use Rattle.c_tokens.proofs.span.place_at.Given as goal

abbrev pub invariant-loop-byte : goal.invariant-loop-byte
invariant-loop-byte l = record {
  line : l.line ≡ line_at l.fn.text l.byte-index;
  column : l.column ≡ column_at l.fn.text l.byte-index;
  few_lines : l.line ≤ l.byte-index + 1;
  few_columns : l.column ≤ l.byte-index + 1;
}

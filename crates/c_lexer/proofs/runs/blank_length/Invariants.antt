use Rattle.std.proofs.Common.{◌≡◌, ◌+◌, drop}
use Rattle.std.specs.List.{prefix_len}
use Rattle.c_tokens.specs.Bytes.{is_blank}
use Rattle.c_lexer.proofs.runs.blank_length.Given as goal

abbrev pub invariant-loop-index : goal.invariant-loop-index
invariant-loop-index l = prefix_len is_blank l.text ≡ l.index + prefix_len is_blank (drop l.index l.text)

use Rattle.std.proofs.Common.{◌≡◌, ◌+◌, drop}
use Rattle.std.specs.List.{prefix_len}
use Rattle.c_tokens.specs.Bytes.{is_octal}
use Rattle.c_lexer.proofs.runs.octal_length.Given as goal

abbrev pub invariant-loop-index : goal.invariant-loop-index
invariant-loop-index l = prefix_len is_octal l.text ≡ l.index + prefix_len is_octal (drop l.index l.text)

use Rattle.std.proofs.Common.{◌≡◌, ◌+◌, drop}
use Rattle.std.specs.List.{prefix_len}
use Rattle.c_tokens.specs.Bytes.{is_hexadecimal}
use Rattle.c_lexer.proofs.runs.hexadecimal_length.Given as goal

abbrev pub invariant-loop-index : goal.invariant-loop-index
invariant-loop-index l = prefix_len is_hexadecimal l.text ≡ l.index + prefix_len is_hexadecimal (drop l.index l.text)

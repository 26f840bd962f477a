use Rattle.std.proofs.Common.{◌≡◌, ◌+◌, drop}
use Rattle.c_tokens.specs.Skipped.{line_run}
use Rattle.c_lexer.proofs.runs.line_length.Given as goal

abbrev pub invariant-loop-index : goal.invariant-loop-index
invariant-loop-index l = line_run l.text ≡ l.index + line_run (drop l.index l.text)

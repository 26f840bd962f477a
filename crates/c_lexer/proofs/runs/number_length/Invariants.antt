use Rattle.std.proofs.Common.{◌≡◌, ◌+◌, drop}
use Rattle.c_tokens.specs.Runs.{number_run}
use Rattle.c_lexer.proofs.runs.number_length.Given as goal

abbrev pub invariant-loop-index : goal.invariant-loop-index
invariant-loop-index l = number_run l.first l.text ≡ l.index + number_run l.before (drop l.index l.text)

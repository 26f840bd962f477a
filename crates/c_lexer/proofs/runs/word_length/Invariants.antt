use Rattle.std.proofs.Common.{◌≡◌, ◌+◌, drop}
use Rattle.c_tokens.specs.Runs.{word_run}
use Rattle.c_lexer.proofs.runs.word_length.Given as goal

abbrev pub invariant-loop-index : goal.invariant-loop-index
invariant-loop-index l = word_run l.text ≡ l.index + word_run (drop l.index l.text)

use Rattle.std.proofs.Common.{◌≡◌, ◌+◌, drop, option_map}
use Rattle.c_tokens.specs.Skipped.{through_close}
use Rattle.c_lexer.proofs.skipped.close_length.Given as goal

abbrev pub invariant-loop-index : goal.invariant-loop-index
invariant-loop-index l = through_close l.text ≡ option_map (λ n. l.index + n) (through_close (drop l.index l.text))

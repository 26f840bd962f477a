use Rattle.std.proofs.Common.{length, ◌-◌}
use Rattle.c_lexer.proofs.Turns.{Read}
use Rattle.c_lexer.proofs.lexer.lex.Given as goal

abbrev pub decreases-loop-at : goal.decreases-loop-at
decreases-loop-at l = length l.bytes - l.at

abbrev pub invariant-loop-at : goal.invariant-loop-at
invariant-loop-at l = Read l.dialect l.bytes l.fn.words l.at l.first l.tokens.items l.words

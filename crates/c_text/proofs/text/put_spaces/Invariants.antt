use Rattle.std.proofs.Common.{◌≡◌, ◌++◌, replicate}
use Rattle.c_text.proofs.text.put_spaces.Given as goal

abbrev pub invariant-loop-space : goal.invariant-loop-space
invariant-loop-space l = l.text.items ≡ l.fn.text.items ++ replicate l._space 32

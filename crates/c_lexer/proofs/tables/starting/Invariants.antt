use Rattle.std.proofs.Common.{◌≡◌, drop}
use Rattle.c_tokens.specs.Runs.{first_prefix}
use Rattle.c_tokens.specs.Shown.{shown}
use Rattle.c_lexer.proofs.tables.starting.Given as goal

abbrev pub invariant-loop-spelled : goal.invariant-loop-spelled
invariant-loop-spelled l = first_prefix l.text (shown l.table) ≡ first_prefix l.text (shown (drop l.spelled-index l.table))

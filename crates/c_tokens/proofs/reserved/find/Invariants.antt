use Rattle.std.proofs.Common.{◌≡◌, drop}
use Rattle.c_tokens.specs.Spelling.{find_text}
use Rattle.c_tokens.specs.Shown.{shown}
use Rattle.c_tokens.proofs.reserved.find.Given as goal

abbrev pub invariant-loop-spelled : goal.invariant-loop-spelled
invariant-loop-spelled g l = find_text l.text (shown l.table) ≡ find_text l.text (shown (drop l.spelled-index l.table))

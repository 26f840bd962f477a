use Rattle.std.proofs.Common.{◌≡◌, drop}
use Rattle.c_tokens.specs.Spelling.{find_text}
use Rattle.meta_types.specs.Shown.{shown}
use Rattle.meta_types.proofs.primitives.find.Given as goal

abbrev pub invariant-loop-spelled : goal.invariant-loop-spelled
invariant-loop-spelled l = find_text l.name (shown l.table) ≡ find_text l.name (shown (drop l.spelled-index l.table))

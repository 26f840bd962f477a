-- The exit statuses.
use Rattle.std.specs.Prelude.{ℕ}
use Rattle.ms2_top.specs.declared.status.Status.{Status}
use Rattle.ms2_top.specs.declared.status.Status.TheVariants.{Done, Refused, Usage, Read, Write, Memory, Limit}

abbrev pub code_of : Status → ℕ
code_of Done = 0
code_of Refused = 1
code_of Usage = 2
code_of Read = 4
code_of Write = 5
code_of Memory = 6
code_of Limit = 7

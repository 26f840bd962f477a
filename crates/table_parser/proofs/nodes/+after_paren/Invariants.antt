use Rattle.std.proofs.Common.{length}
use Rattle.table_parser.proofs.nodes.+after_paren.Given as goal

abbrev pub decreases-after_paren : goal.decreases-after_paren
decreases-after_paren l = length l.pieces.now

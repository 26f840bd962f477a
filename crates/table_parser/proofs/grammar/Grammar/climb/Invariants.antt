use Rattle.std.proofs.Common.{◌≡◌, ◌≤◌}
use Rattle.c_syntax.specs.Grammar as grammar
use Rattle.table_parser.specs.Nests.{read}
use Rattle.table_parser.specs.Turns.{climbed_from}
use Rattle.table_parser.proofs.grammar.Grammar.climb.Given as goal

-- what is left answers what the whole does
abbrev pub invariant-tails : goal.invariant-tails
invariant-tails g l = record {
  rest : read l.self.depth (grammar.climb l.due l.least l.start l.fn.first) l.fn.cursor.input ≡ climbed_from l.self.depth l.due l.least l.start l.turns l.standing l.cursor.input;
  kept : l.cursor.before ≡ l.fn.cursor.before;
  low : l.standing.found.height ≤ l.self.depth;
}

abbrev pub decreases-tails : goal.decreases-tails
decreases-tails g l = l.turns

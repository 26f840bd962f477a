use Rattle.std.proofs.Common.{◌≡◌, ◌<◌, ◌≤◌, ◌-◌, ◌^◌}
use Rattle.c_syntax.specs.Reading as reading
use Rattle.table_parser.specs.Nests.{read, part_of}
use Rattle.table_parser.specs.Turns.{others_from}
use Rattle.table_parser.proofs.grammar.Grammar.others.Given as goal

-- what is left of the list answers what the whole does
abbrev pub invariant-elements : goal.invariant-elements
invariant-elements g l = record {
  rest : read l.self.depth (reading.others l.repetition l.part.due (part_of l.part.is_deeper l.self.places l.part.due l.part.least) l.fn.all) l.fn.cursor.input
      ≡ others_from l.self.depth l.repetition l.part.due (part_of l.part.is_deeper l.self.places l.part.due l.part.least) l.turns l.all l.cursor.input;
  kept : l.cursor.before ≡ l.fn.cursor.before;
  low : l.all.height ≤ l.self.depth;
  last : l.all.last < 2 ^ 32 - 1;
}

abbrev pub decreases-elements : goal.decreases-elements
decreases-elements g l = l.turns

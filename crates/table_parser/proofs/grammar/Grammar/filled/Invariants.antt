use Rattle.std.proofs.Common.{◌≡◌, ◌≤◌, drop}
use Rattle.c_syntax.specs.Reading as reading
use Rattle.table_parser.specs.Filled.{filled, filling_of, going, parts_after}
use Rattle.table_parser.specs.Nests.{read, part_of}
use Rattle.table_parser.proofs.grammar.Grammar.filled.Given as goal

-- the pieces that are left answer what all do
abbrev pub invariant-pieces : goal.invariant-pieces
invariant-pieces g l = record {
  rest : read l.self.depth (filled (part_of l.owner.is_deeper l.self.places) l.owner.own l.owner.form l.pieces (going reading.Usual l.fn.done)) l.fn.cursor.input
      ≡ parts_after l.self.depth (part_of l.owner.is_deeper l.self.places) l.owner.own l.owner.form (drop l.piece-index l.pieces) (filling_of l.filling l.done) l.cursor.input;
  kept : l.cursor.before ≡ l.fn.cursor.before;
  low : l.done.height ≤ l.self.depth;
}

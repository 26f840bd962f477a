use Rattle.std.proofs.Common.{◌∙◌, ap}
use Rattle.c_syntax.specs.Reading as reading
use Rattle.table_parser.specs.Nests.{part_of}
use Rattle.table_parser.proofs.Pushed.{completed_ok}
use Rattle.table_parser.proofs.grammar.Grammar.completed.Goals as goal

pub returns-clause-reads : goal.returns-clause-reads
returns-clause-reads g c = completed_ok c.args.self.now.depth (part_of c.args.owner.is_deeper c.args.self.now.places) c.args.owner.own c.args.owner.form c.args.start c.args.done c.args.pieces.now c.args.cursor.now.input
    c.filled.new.done c.filled.new.cursor.input c.in_ok-node.field-0 c.in_ok-filled.ensures.reads
    (c.in_ok-node.ensures.node ∙ ap (λ k. reading.node c.args.owner.form c.args.start k c.filled.new.done) c.place-end.ensures.value)

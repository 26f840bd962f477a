use Rattle.std.proofs.Common.{rules, arith}
use Rattle.std.proofs.lemmas.Grind.{common_steps}
use Rattle.table_parser.specs.Nests.{part_of}
use Rattle.table_parser.proofs.Elements.{others_broken}
use Rattle.table_parser.proofs.grammar.Grammar.others.Goals as goal

pub returns-in_err-one_more-clause-reads : goal.returns-in_err-one_more-clause-reads
returns-in_err-one_more-clause-reads g c =
    let e = others_broken c.args.self.now.depth c.args.repetition c.args.part.due (part_of c.args.part.is_deeper c.args.self.now.places c.args.part.due c.args.part.least) c.elements.all c.elements.cursor.input c.elements.turns in
    first_of (search rules, grind (arith, common_steps, e))

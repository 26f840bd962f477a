use Rattle.std.proofs.Common.{rules, arith}
use Rattle.std.proofs.lemmas.Grind.{common_steps}
use Rattle.table_parser.specs.Nests.{part_of}
use Rattle.table_parser.proofs.Elements.{ended_broken, ended_out}
use Rattle.table_parser.proofs.grammar.Grammar.others_ended.Goals as goal

pub returns-in_err-element_after-clause-reads : goal.returns-in_err-element_after-clause-reads
returns-in_err-element_after-clause-reads g c =
    let e = ended_broken c.args.self.now.depth c.args.separator c.args.end (part_of c.args.part.is_deeper c.args.self.now.places c.args.part.due c.args.part.least) c.elements.all c.elements.cursor.input c.elements.turns in
    first_of (search rules, grind (arith, common_steps, e))

pub returns-then-turns-eq0-clause-reads : goal.returns-then-turns-eq0-clause-reads
returns-then-turns-eq0-clause-reads g c =
    let e = ended_out c.args.self.now.depth c.args.separator c.args.end (part_of c.args.part.is_deeper c.args.self.now.places c.args.part.due c.args.part.least) c.elements.all c.elements.cursor.input c.elements.turns c.element_after.new.all c.element_after.new.cursor.input in
    first_of (search rules, grind (arith, common_steps, e))

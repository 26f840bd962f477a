use Rattle.std.proofs.Common.{rules, arith}
use Rattle.std.proofs.lemmas.Grind.{common_steps}
use Rattle.table_parser.proofs.Chains.{climb_broken, climb_out}
use Rattle.table_parser.proofs.grammar.Grammar.climb.Goals as goal

pub returns-in_err-standing-clause-reads : goal.returns-in_err-standing-clause-reads
returns-in_err-standing-clause-reads g c =
    let e = climb_broken c.args.self.now.depth c.args.due c.args.least c.args.start c.tails.standing c.tails.cursor.input c.tails.turns in
    first_of (search rules, grind (arith, common_steps, e))

pub returns-then-turns-eq0-clause-reads : goal.returns-then-turns-eq0-clause-reads
returns-then-turns-eq0-clause-reads g c =
    let e = climb_out c.args.self.now.depth c.args.due c.args.least c.args.start c.tails.standing c.tails.cursor.input c.tails.turns c.in_ok-standing.standing c.continued.new.cursor.input in
    first_of (search rules, grind (arith, common_steps, e))

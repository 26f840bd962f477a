use Rattle.std.proofs.Common.{rules, arith, ◌≡◌, ◌<◌, ap, ◌∙◌, refl}
use Rattle.std.proofs.lemmas.Grind.{common_steps}
use Rattle.c_syntax.specs.Grammar.{in_place}
use Rattle.c_syntax.specs.Reading.{deeper}
use Rattle.table_parser.proofs.Follows.{tail_ok, tail_broken}
use Rattle.table_parser.proofs.grammar.Grammar.continued.Goals as goal

pub returns-in_err-found-in-Some-clause-reads : goal.returns-in_err-found-in-Some-clause-reads
returns-in_err-found-in-Some-clause-reads g c =
    let high : c.height.result ≡ c.args.standing.found.height = c.height.ensures ∙ ap (λ y. y.found.height) c.standing.view_is in
    let room : c.args.standing.found.height < c.args.self.now.depth = omega (arith, high, c.in_ok-fits-in-Some.ensures.fits) in
    let this = c.deeper-first.ensures ∙ ap (λ y. deeper y.found) c.standing.view_is in
    let e = tail_broken c.args.self.now.depth (in_place c.args.self.now.places) c.args.due c.args.start c.args.standing c.look.result.shape c.in-Some.form c.args.cursor.now.input c.in-Some.ensures room c.deeper-first.result c.in_err-found-in-Some.field-0.0 (ap (λ x. x.shape) c.look.ensures) this in
    first_of (search rules, grind (arith, common_steps, e))

pub returns-in_ok-found-in-Some-clause-reads : goal.returns-in_ok-found-in-Some-clause-reads
returns-in_ok-found-in-Some-clause-reads g c =
    let high : c.height.result ≡ c.args.standing.found.height = c.height.ensures ∙ ap (λ y. y.found.height) c.standing.view_is in
    let room : c.args.standing.found.height < c.args.self.now.depth = omega (arith, high, c.in_ok-fits-in-Some.ensures.fits) in
    let this = c.deeper-first.ensures ∙ ap (λ y. deeper y.found) c.standing.view_is in
    tail_ok c.args.self.now.depth (in_place c.args.self.now.places) c.args.due c.args.start c.args.standing c.look.result.shape c.in-Some.form c.args.cursor.now.input c.in-Some.ensures room c.deeper-first.result c.in_ok-found-in-Some.found c.level.result _ c.after_part.new.cursor.input (ap (λ x. x.shape) c.look.ensures) this refl c.level.ensures c.in_ok-found-in-Some.ensures.reads

use Rattle.std.proofs.Common.{◌≡◌, sym, subst, Some}
use Rattle.io_edge.specs.Files.{file_at}
use Rattle.ms2_top.specs.Runs.{told}
use Rattle.ms2_top.proofs.Answered.{settles}
use Rattle.ms2_top.proofs.program.run.Goals as goal

pub returns-in-Some-clause-complete : goal.returns-in-Some-clause-complete
returns-in-Some-clause-complete g c bytes e le no_fault no_loss =
    settles (file_at (g.F.Shelf.files c.args.shelf.now) c.in-Some.name.now) bytes _ _ c.run_over.result
    (subst (λ f. told (g.F.Shelf.files c.args.shelf.now) f ≡ Some (Some bytes)) (sym c.in-Some.ensures) e) le
    c.run_over.ensures.answer c.run_over.ensures.read no_fault c.run_over.ensures.write no_loss c.run_over.ensures.command

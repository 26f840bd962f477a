use Rattle.std.proofs.Common.{subst}
use Rattle.io_edge.specs.Files.{file_at}
use Rattle.ms2_top.specs.Endings.{status_of}
use Rattle.ms2_top.specs.Outcomes.{most_bytes}
use Rattle.ms2_top.specs.Runs.{IsAnswer}
use Rattle.ms2_top.proofs.Answered.{by_status, told_so}
use Rattle.ms2_top.proofs.program.respond.Goals as goal

pub returns-clause-answer : goal.returns-clause-answer
returns-clause-answer g c = by_status (file_at (g.F.Shelf.files c.args.shelf.now) c.args.name.now) c.in-Ok.bytes.items _ _ (status_of c.write_text.result)
    (told_so (file_at (g.F.Shelf.files c.args.shelf.now) c.args.name.now) c.in-Ok.bytes.items most_bytes c.in-Ok.ensures.answer) c.in-Ok.ensures.within
    (subst (λ b. IsAnswer b (g.O.Sink.held c.args.out.now) (g.O.Sink.held c.write_text.new.out) (status_of c.write_text.result)) c.deref.ensures.value c.write_text.ensures.answer)

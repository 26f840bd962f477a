use Rattle.std.proofs.Common.{◌∙◌, ap, subst, ◌<◌}
use Rattle.reader_states.specs.Scopes.{back_to}
use Rattle.reader_states.proofs.Entries.{back-undone}
use Rattle.reader_states.proofs.scopes.undo_to.Goals as goal

pub loop-table-preserved : goal.loop-table-preserved
loop-table-preserved c =
    ap (back_to c.args.steps) c.undo.ensures.undone ∙ back-undone c.args.steps c.loop-table.table (subst (λ n. c.args.steps < n) c.steps.ensures.steps c.loop-table-test.true) ∙ c.loop-table.invariant

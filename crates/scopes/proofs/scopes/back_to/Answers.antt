use Rattle.std.proofs.Common.{sym, subst, arith}
use Rattle.scopes.specs.Steps.{IsLater}
use Rattle.scopes.proofs.Walks.{later_undone}
use Rattle.scopes.proofs.scopes.back_to.Goals as goal

pub loop-table-preserved : goal.loop-table-preserved
loop-table-preserved c = λ old later steps.
    subst (λ now. IsLater old now) (sym c.undo-entered.ensures.undone) (later_undone old c.loop-table.table (c.loop-table.invariant old later steps) (omega (arith, steps, c.steps.ensures.steps, c.loop-table-test.true)))

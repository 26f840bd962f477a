use Rattle.std.proofs.Common.{subst, ◌+◌, drop}
use Rattle.c_forms.specs.Forests.{forest}
use Rattle.scopes.specs.Events.{beside_name}
use Rattle.scopes.specs.Steps.{IsUnderWay}
use Rattle.scopes.proofs.Walks.{forest_next, further, stops_there, goes_out}
use Rattle.scopes.proofs.params.+beside.Goals as goal

pub redeclare_beside-returns-in_err-redeclare_in_declarator : goal.redeclare_beside-returns-in_err-redeclare_in_declarator
redeclare_beside-returns-in_err-redeclare_in_declarator t c =
    goes_out c.from_residual.ensures.1
    (stops_there (beside_name (forest (drop (c.loop-tree.tree-index + 1) c.args.trees.now))) c.in_err-redeclare_in_declarator.ensures
    (subst (λ others. IsUnderWay c.args.table.now c.loop-tree.table (beside_name (forest c.args.trees.now)) (beside_name others)) (forest_next c.args.trees.now c.loop-tree.tree-index c.tree-item.result c.loop-tree-test.true c.tree-item.is) c.loop-tree.invariant))

pub redeclare_beside-loop-tree-preserved : goal.redeclare_beside-loop-tree-preserved
redeclare_beside-loop-tree-preserved t c =
    further (beside_name (forest (drop (c.loop-tree.tree-index + 1) c.args.trees.now))) c.in_ok-redeclare_in_declarator.ensures
    (subst (λ others. IsUnderWay c.args.table.now c.loop-tree.table (beside_name (forest c.args.trees.now)) (beside_name others)) (forest_next c.args.trees.now c.loop-tree.tree-index c.tree-item.result c.loop-tree-test.true c.tree-item.is) c.loop-tree.invariant)

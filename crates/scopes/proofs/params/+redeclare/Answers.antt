use Rattle.std.proofs.Common.{refl, subst, ◌+◌, drop}
use Rattle.c_forms.specs.Forests.{forest}
use Rattle.scope_meanings.specs.Meanings.{declares, name_in}
use Rattle.scopes.specs.Events.{declared_as, words}
use Rattle.scopes.specs.Steps.{IsUnderWay}
use Rattle.scopes.proofs.Walks.{forest_next, further, stops_there, goes_out, goes_both, goes_stops, goes_along, redeclared_parts}
use Rattle.scopes.proofs.params.+redeclare.Goals as goal

pub redeclare-returns-in_err-redeclare_one : goal.redeclare-returns-in_err-redeclare_one
redeclare-returns-in_err-redeclare_one t c =
    goes_out c.from_residual.ensures.1
    (stops_there (words c.args.used (forest (drop (c.loop-tree.tree-index + 1) c.args.trees.now))) c.in_err-redeclare_one.ensures
    (subst (λ others. IsUnderWay c.args.table.now c.loop-tree.table (words c.args.used (forest c.args.trees.now)) (words c.args.used others)) (forest_next c.args.trees.now c.loop-tree.tree-index c.tree-item.result c.loop-tree-test.true c.tree-item.is) c.loop-tree.invariant))

pub redeclare-loop-tree-preserved : goal.redeclare-loop-tree-preserved
redeclare-loop-tree-preserved t c =
    further (words c.args.used (forest (drop (c.loop-tree.tree-index + 1) c.args.trees.now))) c.in_ok-redeclare_one.ensures
    (subst (λ others. IsUnderWay c.args.table.now c.loop-tree.table (words c.args.used (forest c.args.trees.now)) (words c.args.used others)) (forest_next c.args.trees.now c.loop-tree.tree-index c.tree-item.result c.loop-tree-test.true c.tree-item.is) c.loop-tree.invariant)

pub redeclare_one-returns-in_err-redeclare-in-Parts : goal.redeclare_one-returns-in_err-redeclare-in-Parts
redeclare_one-returns-in_err-redeclare-in-Parts t c =
    goes_out c.from_residual.ensures.1
    (goes_along (redeclared_parts c.args.used c.args.tree.now c.form-form.result (forest c.parts-parts.result.now) c.inside.result (declares c.form-form.result c.args.used) c.form-form.ensures c.parts-parts.ensures c.in-Parts.ensures c.inside.ensures refl)
    (goes_stops (declared_as (declares c.form-form.result c.args.used) (name_in (forest c.parts-parts.result.now))) c.in_err-redeclare-in-Parts.ensures))

pub redeclare_one-returns-in_ok-redeclare-in-Parts : goal.redeclare_one-returns-in_ok-redeclare-in-Parts
redeclare_one-returns-in_ok-redeclare-in-Parts t c =
    goes_along (redeclared_parts c.args.used c.args.tree.now c.form-form.result (forest c.parts-parts.result.now) c.inside.result c.declares.result c.form-form.ensures c.parts-parts.ensures c.in-Parts.ensures c.inside.ensures c.declares.ensures)
    (goes_both c.in_ok-redeclare-in-Parts.ensures c.declare_as.ensures)

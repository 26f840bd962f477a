use Rattle.std.proofs.Common.{refl, subst, ◌+◌, drop}
use Rattle.c_forms.specs.Forests.{forest}
use Rattle.scope_meanings.specs.Meanings.{declares, name_in}
use Rattle.scopes.specs.Events.{declared_as, in_order, each}
use Rattle.scopes.specs.Steps.{IsUnderWay}
use Rattle.scopes.proofs.Walks.{forest_next, further, stops_there, goes_out, goes_both, goes_stops, goes_along, goes_scope, goes_into, walked_parts, function_is}
use Rattle.scopes.proofs.walk.+walk.Goals as goal

pub walk-returns-in_err-walk_all-in-Parts : goal.walk-returns-in_err-walk_all-in-Parts
walk-returns-in_err-walk_all-in-Parts t c =
    goes_out c.from_residual.ensures.1
    (goes_along (walked_parts c.args.used c.args.tree.now c.form-form.result (forest c.parts-parts.result.now) c.inside-inner.result (declares c.form-form.result c.args.used) c.form-form.ensures c.parts-parts.ensures c.in-Parts.ensures c.inside-inner.ensures refl)
    (goes_stops (declared_as (declares c.form-form.result c.args.used) (name_in (forest c.parts-parts.result.now))) c.in_err-walk_all-in-Parts.ensures))

pub walk-returns-in_ok-walk_all-in-Parts : goal.walk-returns-in_ok-walk_all-in-Parts
walk-returns-in_ok-walk_all-in-Parts t c =
    goes_along (walked_parts c.args.used c.args.tree.now c.form-form.result (forest c.parts-parts.result.now) c.inside-inner.result c.declares.result c.form-form.ensures c.parts-parts.ensures c.in-Parts.ensures c.inside-inner.ensures c.declares.ensures)
    (goes_both c.in_ok-walk_all-in-Parts.ensures c.declare_as.ensures)

pub walk_all-returns-in_err-walk : goal.walk_all-returns-in_err-walk
walk_all-returns-in_err-walk t c =
    goes_out c.from_residual.ensures.1
    (stops_there (in_order (each c.args.used (forest (drop (c.loop-tree.tree-index + 1) c.args.trees.now)))) c.in_err-walk.ensures
    (subst (λ others. IsUnderWay c.args.table.now c.loop-tree.table (in_order (each c.args.used (forest c.args.trees.now))) (in_order (each c.args.used others))) (forest_next c.args.trees.now c.loop-tree.tree-index c.tree-item.result c.loop-tree-test.true c.tree-item.is) c.loop-tree.invariant))

pub walk_all-loop-tree-preserved : goal.walk_all-loop-tree-preserved
walk_all-loop-tree-preserved t c =
    further (in_order (each c.args.used (forest (drop (c.loop-tree.tree-index + 1) c.args.trees.now)))) c.in_ok-walk.ensures
    (subst (λ others. IsUnderWay c.args.table.now c.loop-tree.table (in_order (each c.args.used (forest c.args.trees.now))) (in_order (each c.args.used others))) (forest_next c.args.trees.now c.loop-tree.tree-index c.tree-item.result c.loop-tree-test.true c.tree-item.is) c.loop-tree.invariant)

pub walk_scope-returns-in_err-walk_all : goal.walk_scope-returns-in_err-walk_all
walk_scope-returns-in_err-walk_all t c = goes_out c.from_residual-in_err-walk_all.ensures.1 (goes_into c.requires c.in_ok-begin.ensures.ok c.in_err-walk_all.ensures)

pub walk_scope-returns : goal.walk_scope-returns
walk_scope-returns t c = goes_scope _ c.requires c.in_ok-begin.ensures.ok c.in_ok-walk_all.ensures c.leave.ensures

pub walk_body-returns : goal.walk_body-returns
walk_body-returns t c = goes_scope _ c.requires c.in_ok-begin.ensures.ok (goes_both c.in_ok-redeclare_beside.ensures c.in_ok-walk_all.ensures) c.leave.ensures

pub walk_body-returns-in_err-redeclare_beside : goal.walk_body-returns-in_err-redeclare_beside
walk_body-returns-in_err-redeclare_beside t c =
    goes_out c.from_residual-in_err-redeclare_beside.ensures.1 (goes_into c.requires c.in_ok-begin.ensures.ok (goes_stops (in_order (each c.args.used (forest c.args.others.now))) c.in_err-redeclare_beside.ensures))

pub walk_body-returns-in_err-walk_all : goal.walk_body-returns-in_err-walk_all
walk_body-returns-in_err-walk_all t c = goes_out c.from_residual-in_err-walk_all.ensures.1 (goes_into c.requires c.in_ok-begin.ensures.ok (goes_both c.in_ok-redeclare_beside.ensures c.in_err-walk_all.ensures))

pub walk_function-returns-in_err-walk : goal.walk_function-returns-in_err-walk
walk_function-returns-in_err-walk t c =
    goes_out c.from_residual.ensures.1
    (goes_along (function_is c.args.used c.args.parts.now c.in-Some.others.now c.in-Some-split_first.others.now c.in-Some.specs.now c.in-Some-split_first.declarator.now (name_in (forest c.args.parts.now)) c.in-Some.ensures.cases.0 c.in-Some-split_first.ensures.cases.0 refl)
    (goes_stops _ c.in_err-walk.ensures))

pub walk_function-returns-in_err-check_name : goal.walk_function-returns-in_err-check_name
walk_function-returns-in_err-check_name t c =
    goes_out c.from_residual-in_err-check_name.ensures.1
    (goes_along (function_is c.args.used c.args.parts.now c.in-Some.others.now c.in-Some-split_first.others.now c.in-Some.specs.now c.in-Some-split_first.declarator.now (name_in (forest c.args.parts.now)) c.in-Some.ensures.cases.0 c.in-Some-split_first.ensures.cases.0 refl)
    (goes_both c.in_ok-walk.ensures (goes_stops _ c.in_err-check_name.ensures)))

pub walk_function-returns-in_err-walk-2 : goal.walk_function-returns-in_err-walk-2
walk_function-returns-in_err-walk-2 t c =
    goes_out c.from_residual-in_err-walk-2.ensures.1
    (goes_along (function_is c.args.used c.args.parts.now c.in-Some.others.now c.in-Some-split_first.others.now c.in-Some.specs.now c.in-Some-split_first.declarator.now (name_in (forest c.args.parts.now)) c.in-Some.ensures.cases.0 c.in-Some-split_first.ensures.cases.0 refl)
    (goes_both c.in_ok-walk.ensures (goes_both c.in_ok-check_name.ensures (goes_stops _ c.in_err-walk-2.ensures))))

pub walk_function-returns-in_err-declare_name : goal.walk_function-returns-in_err-declare_name
walk_function-returns-in_err-declare_name t c =
    goes_out c.from_residual-in_err-declare_name.ensures.1
    (goes_along (function_is c.args.used c.args.parts.now c.in-Some.others.now c.in-Some-split_first.others.now c.in-Some.specs.now c.in-Some-split_first.declarator.now c.name_in.result c.in-Some.ensures.cases.0 c.in-Some-split_first.ensures.cases.0 c.name_in.ensures)
    (goes_both c.in_ok-walk.ensures (goes_both c.in_ok-check_name.ensures (goes_both c.in_ok-walk-2.ensures (goes_stops _ c.in_err-declare_name.ensures)))))

pub walk_function-returns : goal.walk_function-returns
walk_function-returns t c =
    goes_along (function_is c.args.used c.args.parts.now c.in-Some.others.now c.in-Some-split_first.others.now c.in-Some.specs.now c.in-Some-split_first.declarator.now c.name_in.result c.in-Some.ensures.cases.0 c.in-Some-split_first.ensures.cases.0 c.name_in.ensures)
    (goes_both c.in_ok-walk.ensures (goes_both c.in_ok-check_name.ensures (goes_both c.in_ok-walk-2.ensures (goes_both c.in_ok-declare_name.ensures c.walk_body.ensures))))

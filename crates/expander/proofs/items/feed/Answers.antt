use Rattle.std.proofs.Common.{subst, sym, arith, ◌<◌, length}
use Rattle.expander.proofs.Progress.{Progress, begun, taken, nearer, within, not_true, so_true, finished, refused}
use Rattle.expander.proofs.items.feed.Goals as goal

pub items-init : goal.items-init
items-init c = record { progress = subst (λ s. Progress c.args.tokens.now s c.new-written.result 0) (sym c.new-scopes.ensures) (subst (λ x. Progress c.args.tokens.now _ x 0) (sym c.new-written.ensures) (begun c.args.tokens.now)) }

pub items-preserved : goal.items-preserved
items-preserved c = record { progress = taken c.args.tokens.now _ _ _ _ _ _ (not_true c.is_end.result _ c.items-test.true c.is_end.ensures.1) c.in-Ok.ensures.taken c.items.invariant.progress }

pub items-smaller : goal.items-smaller
items-smaller c =
    let more = not_true c.is_end.result _ c.items-test.true c.is_end.ensures.1 in
    let onward : c.items.at < c.in-Ok.after = nearer c.args.tokens.now _ _ _ _ _ _ more c.in-Ok.ensures.taken in
    let less : c.items.at < length c.args.tokens.now = within c.args.tokens.now c.items.at more in
    omega arith

pub returns-in-Err-clause-stopped : goal.returns-in-Err-clause-stopped
returns-in-Err-clause-stopped c = refused c.args.tokens.now _ _ _ c.items.invariant.progress c.in-Err.stop (not_true c.is_end.result _ c.items-test.true c.is_end.ensures.1) c.in-Err.ensures.stopped

pub returns-clause-translated : goal.returns-clause-translated
returns-clause-translated c = finished c.args.tokens.now _ _ _ c.items.invariant.progress (so_true c.is_end.result _ c.items-test.false c.is_end.ensures.0)

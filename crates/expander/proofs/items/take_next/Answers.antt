use Rattle.std.proofs.Common.{◌≡◌, subst}
use Rattle.scopes.specs.Events.{events}
use Rattle.scopes.specs.Settling.{Scoped, settled}
use Rattle.expander.proofs.Progress.{next_item, only_one, as_stop}
use Rattle.expander.proofs.items.take_next.Goals as goal

pub returns-in_ok-keep-in-Ok-clause-taken : goal.returns-in_ok-keep-in-Ok-clause-taken
returns-in_ok-keep-in-Ok-clause-taken c = record {
  item = c.in-Ok.item;
  is_item = next_item c.args.tokens.now c.args.scopes.now c.args.at c.in-Ok.item c.in-Ok.after c.settle.new.scopes c.in-Ok.ensures.read
      (subst (λ s. settled (events c.in-Ok.item) s ≡ Scoped c.settle.new.scopes) c.in-Ok.ensures.kept c.in_ok-settle-in-Ok.ensures);
  written_is = c.in_ok-keep-in-Ok.ensures;
  only = only_one c.args.tokens.now c.args.scopes.now c.args.at c.in-Ok.item c.in-Ok.after c.in-Ok.ensures.complete;
}

pub returns-in-Err-clause-stopped : goal.returns-in-Err-clause-stopped
returns-in-Err-clause-stopped c = as_stop c.args.tokens.now c.args.scopes.now c.args.at c.in-Err.refusal c.stop.result c.stop.ensures c.in-Err.ensures.complete c.in-Err.ensures.syntax c.in-Err.ensures.too_deep

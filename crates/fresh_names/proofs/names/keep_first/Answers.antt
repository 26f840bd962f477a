use Rattle.std.proofs.Common.{sym, subst}
use Rattle.fresh_names.specs.Names.{TakenBelow}
use Rattle.fresh_names.specs.Table.{AllTakenBelow}
use Rattle.fresh_names.proofs.Kept.{taken-insert}
use Rattle.fresh_names.proofs.names.keep_first.Goals as goal

pub returns : goal.returns
returns c = record {
  kept = λ texts h below.
      subst (λ entries. AllTakenBelow (λ key. key.items) texts entries) (sym c.in_ok-insert.ensures.entries)
      (taken-insert (λ key. key.items) texts c.in_ok-key.key c.args.number c.args.kept.now.entries h (subst (λ t. TakenBelow t texts c.args.number) (sym (c.in_ok-key.ensures.items_if_clones_equal (λ x y e. e))) below));
}

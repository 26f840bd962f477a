use Rattle.std.proofs.Common.{sym, ap, ◌∙◌, subst, reverse}
use Rattle.scope_tables.specs.Log.{IsKept}
use Rattle.scope_tables.proofs.Kept.{declare-keeps, reverse-push}
use Rattle.scope_tables.proofs.table.ScopeTable.put.Goals as goal

pub invariant_of-self-3 : goal.invariant_of-self-3
invariant_of-self-3 c =
    subst (λ steps. IsKept c.insert.new.self.entries steps) (sym (ap reverse c.push_reserved.ensures.items ∙ reverse-push c.reserve.new.self.items _))
    (declare-keeps c.self.inside.classes.entries c.insert.new.self.entries c.args.word.0 _ _ (reverse c.reserve.new.self.items) c.in_ok-insert.ensures.updates.0
    c.class-before.ensures (subst (λ items. IsKept c.self.inside.classes.entries (reverse items)) (sym c.reserve.ensures.items) c.self.invariant))

use Rattle.std.proofs.Common.{ap, ◌∙◌, subst, reverse, ◌∷◌}
use Rattle.scope_tables.specs.declared.table.Step.TheVariants.{Declared}
use Rattle.scope_tables.specs.Log.{IsKept}
use Rattle.scope_tables.proofs.Kept.{undo-keeps, reverse-push, changed_surely, on_ok_first}
use Rattle.scope_tables.proofs.table.ScopeTable.undo.Goals as goal

pub invariant_of-self : goal.invariant_of-self
invariant_of-self c =
    let kept : IsKept c.self.inside.classes.entries (Declared c.in-Some-Declared.word c.in-Some-Declared.field-0-1 c.in-Some-Declared.before ∷ reverse c.pop.new.self.items) =
    subst (λ steps. IsKept c.self.inside.classes.entries steps) (ap reverse c.in-Some-Declared.ensures.items ∙ reverse-push c.pop.new.self.items _ ∙ ap (λ step. step ∷ reverse c.pop.new.self.items) c.in-Some-Declared.field-0-is) c.self.invariant in
    undo-keeps c.self.inside.classes.entries c.insert.new.self.entries c.in-Some-Declared.word c.in-Some-Declared.field-0-1 c.in-Some-Declared.before (reverse c.pop.new.self.items)
    (changed_surely c.insert.result c.self.inside.classes.entries c.insert.new.self.entries c.in-Some-Declared.word c.in-Some-Declared.before (on_ok_first c.insert.result (λ u. u.0) c.insert.ensures.updates) c.insert.ensures.absent kept.befores.1)
    kept

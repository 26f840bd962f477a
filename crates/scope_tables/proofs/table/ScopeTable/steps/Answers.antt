use Rattle.std.proofs.Common.{ap, sym, subst, ◌∙◌, ◌<◌, length}
use Rattle.scope_tables.specs.Frames.{steps_in}
use Rattle.scope_tables.proofs.Kept.{steps_in_view, deep_view}
use Rattle.scope_tables.proofs.table.ScopeTable.steps.Goals as goal

pub returns-clause-steps : goal.returns-clause-steps
returns-clause-steps c = c.len.ensures ∙ c.self.inside.log.ok.0 ∙ sym (steps_in_view c.self.inside.log.items) ∙ ap steps_in c.self.view_is

pub returns-clause-deep : goal.returns-clause-deep
returns-clause-deep c = subst (λ frames. 0 < length frames) c.self.view_is (deep_view c.self.inside.log.items)

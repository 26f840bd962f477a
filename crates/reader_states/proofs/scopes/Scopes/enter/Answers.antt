use Rattle.std.proofs.Common.{subst, sym, ap, ◌∙◌, length, ◌∷◌, [], ◌++◌, false}
use Rattle.reader_states.specs.Scopes.{IsKept, entered}
use Rattle.reader_states.proofs.Changes.{entering, known_of}
use Rattle.reader_states.proofs.scopes.Scopes.enter.Goals as goal

pub invariant_of-self-2 : goal.invariant_of-self-2
invariant_of-self-2 c =
    let s = c.self.inside in
    let lates = c.push_reserved.ensures.items ∙ ap (λ items. items ++ s.is_late ∷ []) c.reserve.ensures.items in
    subst (λ items. IsKept s.put_by s.steps (length items) c.enter.new.self) (sym lates)
    (subst (λ frames. IsKept s.put_by s.steps (length (s.lates.items ++ s.is_late ∷ [])) frames) (sym c.in_ok-enter.ensures.ok) (entering s.put_by s.steps s.lates.items s.is_late s.table c.self.invariant).0)

pub returns-clause-ok : goal.returns-clause-ok
returns-clause-ok c =
    let s = c.self.inside in
    let lates = c.push_reserved.ensures.items ∙ ap (λ items. items ++ s.is_late ∷ []) c.reserve.ensures.items in
    ap (λ items. known_of s.put_by s.steps items false c.enter.new.self) lates ∙ ap (known_of s.put_by s.steps (s.lates.items ++ s.is_late ∷ []) false) c.in_ok-enter.ensures.ok
    ∙ (entering s.put_by s.steps s.lates.items s.is_late s.table c.self.invariant).1 ∙ ap entered c.self.view_is

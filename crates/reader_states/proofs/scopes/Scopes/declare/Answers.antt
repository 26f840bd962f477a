use Rattle.std.proofs.Common.{subst, sym, ap, ◌∙◌, length, ◌∷◌, []}
use Rattle.reader_states.specs.Scopes.{IsKept, with_entries, entry_as}
use Rattle.reader_states.proofs.Changes.{declaring, known_of}
use Rattle.reader_states.proofs.scopes.Scopes.declare.Goals as goal

pub invariant_of-self-2 : goal.invariant_of-self-2
invariant_of-self-2 c =
    let s = c.self.inside in
    subst (λ frames. IsKept s.put_by s.steps (length s.lates.items) frames) (sym c.in_ok-put.ensures.ok) (declaring c.args.word.0 c.args.class s.put_by s.steps s.lates.items s.is_late s.table c.self.invariant).0

pub returns-clause-ok : goal.returns-clause-ok
returns-clause-ok c =
    let s = c.self.inside in
    ap (known_of s.put_by s.steps s.lates.items s.is_late) c.in_ok-put.ensures.ok ∙ (declaring c.args.word.0 c.args.class s.put_by s.steps s.lates.items s.is_late s.table c.self.invariant).1
    ∙ ap (with_entries (entry_as c.args.class c.args.word.0 ∷ [])) c.self.view_is

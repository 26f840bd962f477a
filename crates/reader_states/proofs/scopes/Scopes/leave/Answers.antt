use Rattle.std.proofs.Common.{◌≡◌, subst, sym, ap, ◌∙◌, length, reverse}
use Rattle.reader_states.specs.Scopes.{IsKept, MayLeave, left, first_late}
use Rattle.reader_states.proofs.Changes.{leaving, known_of, put-by}
use Rattle.reader_states.proofs.scopes.Scopes.leave.Goals as goal

pub invariant_of-self-2 : goal.invariant_of-self-2
invariant_of-self-2 c =
    let s = c.self.inside in
    let edges : c.len.result ≡ length s.lates.items = c.len.ensures ∙ s.lates.ok.0 in
    let kept = subst (λ n. IsKept c.put_by.new.put_by s.steps n s.table) edges (c.put_by.ensures.kept (subst (λ n. IsKept s.put_by s.steps n s.table) (sym edges) c.self.invariant)) in
    let may = subst (λ n. MayLeave c.put_by.new.put_by n) edges c.in_ok-put_by.ensures.may in
    subst (λ frames. IsKept c.put_by.new.put_by s.steps (length c.leave_edge-self-inside.new.lates.items) frames) (sym c.leave_innermost.ensures)
    (leaving c.put_by.new.put_by s.steps s.lates.items c.leave_edge-self-inside.new.lates.items s.is_late s.table kept may c.leave_edge-self-inside.ensures.others).0

pub returns-clause-ok : goal.returns-clause-ok
returns-clause-ok c =
    let s = c.self.inside in
    let edges : c.len.result ≡ length s.lates.items = c.len.ensures ∙ s.lates.ok.0 in
    let kept = subst (λ n. IsKept c.put_by.new.put_by s.steps n s.table) edges (c.put_by.ensures.kept (subst (λ n. IsKept s.put_by s.steps n s.table) (sym edges) c.self.invariant)) in
    let may = subst (λ n. MayLeave c.put_by.new.put_by n) edges c.in_ok-put_by.ensures.may in
    ap (λ late. known_of c.put_by.new.put_by s.steps c.leave_edge-self-inside.new.lates.items late c.leave_innermost.new.table) c.leave_edge-self-inside.ensures.late
    ∙ ap (known_of c.put_by.new.put_by s.steps c.leave_edge-self-inside.new.lates.items (first_late (reverse s.lates.items))) c.leave_innermost.ensures
    ∙ (leaving c.put_by.new.put_by s.steps s.lates.items c.leave_edge-self-inside.new.lates.items s.is_late s.table kept may c.leave_edge-self-inside.ensures.others).1
    ∙ ap left (put-by s.put_by c.put_by.new.put_by s.steps s.lates.items s.is_late s.table c.put_by.ensures.same ∙ c.self.view_is)

use Rattle.std.proofs.Common.{◌∙◌, ap, sym}
use Rattle.reader_states.specs.Scopes.{with_entries, entries_at}
use Rattle.reader_states.proofs.Changes.{last-first}
use Rattle.reader_states.proofs.attempt.declare_all.Goals as goal

pub loop-word-preserved : goal.loop-word-preserved
loop-word-preserved c =
    ap (with_entries (entries_at c.pop.new.self.items)) c.in_ok-declare.ensures.ok ∙ last-first c.pop.new.self.items c.in-Some.word c.in-Some.class c.loop-word.scopes
    ∙ ap (λ items. with_entries (entries_at items) c.loop-word.scopes) (sym c.in-Some.ensures.items) ∙ c.loop-word.invariant

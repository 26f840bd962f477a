use Rattle.std.proofs.Common.{sym, ap, ◌∙◌, ◌∷◌, nat_eq}
use Rattle.indexmap.proofs.CallerLemmas.{insert_entry-new}
use Rattle.meta_types.specs.Scopes.{with_variable}
use Rattle.meta_types.specs.Frames.{frames}
use Rattle.meta_types.proofs.Options.{none_from}
use Rattle.meta_types.proofs.scope.MetaScope.declare.Goals as goal

pub returns-clause-declared : goal.returns-clause-declared
returns-clause-declared c =
    ap (λ entries. entries ∷ frames c.self.inside.outer.items) (c.in_ok-insert.ensures.entries ∙ insert_entry-new nat_eq c.self.inside.inner c.args.word.0 c.args.of (none_from _ (sym c.contains_key.ensures ∙ c.if-contains_key.false)))
    ∙ ap (with_variable c.args.word.0 c.args.of) c.self.view_is

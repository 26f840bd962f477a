use Rattle.std.proofs.Common.{◌≡◌, sym, ap, ◌∙◌, subst, ◌++◌, [], bytes_eq, Some, unwrap_or, position, IfOk}
use Rattle.fresh_names.specs.Names.{text_at}
use Rattle.fresh_names.proofs.names.Names.join.Goals as goal

pub returns-in-Ok-clause-word : goal.returns-in-Ok-clause-word
returns-in-Ok-clause-word c =
    subst (λ t. IfOk c.make.result (λ made. position (bytes_eq t) c.make.new.self.texts ≡ Some made.0))
    (c.deref.ensures.value ∙ c.in-Ok.ensures ∙ ap (λ s. s ++ c.args.ending.now) (sym (ap (λ o. unwrap_or o []) c.text.ensures) ∙ ap (λ names. text_at names.texts c.args.word.0) c.self.view_is))
    c.make.ensures.word

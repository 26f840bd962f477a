use Rattle.std.proofs.Common.{◌∙◌, ap, reverse}
use Rattle.std.proofs.lemmas.Result.{IfOk-weaker}
use Rattle.c_reader.specs.States.{innermost}
use Rattle.reader_states.specs.Scopes.{entries_at}
use Rattle.reader_states.proofs.Entries.{of-innermost}
use Rattle.reader_states.proofs.scopes.Scopes.innermost.Goals as goal

pub returns : goal.returns
returns c = IfOk-weaker c.innermost.result _ _ (λ words e. ap entries_at e ∙ of-innermost (reverse c.self.inside.lates.items) c.self.inside.table ∙ ap (λ k. innermost k.entries) c.self.view_is) c.innermost.ensures

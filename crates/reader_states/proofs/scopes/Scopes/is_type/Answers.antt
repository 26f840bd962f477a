use Rattle.std.proofs.Common.{◌∙◌, ap, sym, reverse}
use Rattle.c_reader.specs.States.{is_type}
use Rattle.reader_states.proofs.Entries.{is-type}
use Rattle.reader_states.proofs.scopes.Scopes.is_type.Goals as goal

pub returns-in-TypeName : goal.returns-in-TypeName
returns-in-TypeName c = sym (ap (λ k. is_type k.entries c.args.word.0) (sym c.self.view_is) ∙ is-type c.args.word.0 _ c.self.inside.table (reverse c.self.inside.lates.items) (sym c.in-TypeName.ensures))

pub returns-in-Value : goal.returns-in-Value
returns-in-Value c = sym (ap (λ k. is_type k.entries c.args.word.0) (sym c.self.view_is) ∙ is-type c.args.word.0 _ c.self.inside.table (reverse c.self.inside.lates.items) (sym c.in-Value.ensures))

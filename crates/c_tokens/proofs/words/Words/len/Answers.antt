use Rattle.std.proofs.Common.{subst, bytes_eq}
use Rattle.std.specs.List.{IsDistinct}
use Rattle.c_tokens.proofs.Texts.{distinct-map}
use Rattle.c_tokens.proofs.words.Words.len.Goals as goal

pub returns-clause-distinct : goal.returns-clause-distinct
returns-clause-distinct c = subst (IsDistinct bytes_eq) c.self.view_is (distinct-map (λ t. t.items) c.self.inside.texts.keys c.len.ensures.unique)

use Rattle.std.proofs.Common.{ap, sym, ◌∙◌, position, bytes_eq}
use Rattle.c_tokens.proofs.Texts.{position-map}
use Rattle.c_tokens.proofs.words.Words.find.Goals as goal

pub returns-in-Some : goal.returns-in-Some
returns-in-Some c = c.in-Some.ensures.index ∙ sym (position-map (bytes_eq c.args.text.now) (λ t. t.items) c.self.inside.texts.keys) ∙ ap (position (bytes_eq c.args.text.now)) c.self.view_is

pub returns-in-None : goal.returns-in-None
returns-in-None c = c.in-None.ensures.index ∙ sym (position-map (bytes_eq c.args.text.now) (λ t. t.items) c.self.inside.texts.keys) ∙ ap (position (bytes_eq c.args.text.now)) c.self.view_is

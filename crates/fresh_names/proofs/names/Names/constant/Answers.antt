use Rattle.std.proofs.Common.{sym, ap, ◌∙◌, map}
use Rattle.fresh_names.specs.Names.{is_among}
use Rattle.fresh_names.specs.Table.{AllTakenBelow, AreKnown}
use Rattle.fresh_names.proofs.Kept.{kept_or, known-with_text, taken-with_text, no_word-not_fresh}
use Rattle.fresh_names.proofs.names.Names.constant.Goals as goal

pub invariant_of-self : goal.invariant_of-self
invariant_of-self c =
    kept_or (λ texts. AreKnown (map (λ t. t.items) c.self.inside.fresh.keys) texts × AllTakenBelow (λ t. t.items) texts c.self.inside.first.entries) c.number.result c.self.inside.words c.number.new.self c.args.text.now c.number.ensures.table c.number.ensures.err
    c.self.invariant (known-with_text (map (λ t. t.items) c.self.inside.fresh.keys) c.self.inside.words c.args.text.now c.self.invariant.0, taken-with_text (λ t. t.items) c.self.inside.words c.args.text.now c.self.inside.first.entries c.self.invariant.1)

pub returns-clause-apart : goal.returns-clause-apart
returns-clause-apart c =
    ap (λ names. is_among c.args.text.now names.fresh) (sym c.self.view_is)
    ∙ no_word-not_fresh (map (λ t. t.items) c.self.inside.fresh.keys) c.self.inside.words c.args.text.now c.self.invariant.0 c.requires.no_word

use Rattle.std.proofs.Common.{◌≡◌, sym, ap, ◌∙◌, refl, false, map}
use Rattle.fresh_names.specs.Names.{is_among}
use Rattle.fresh_names.specs.Table.{AllTakenBelow, AreKnown}
use Rattle.fresh_names.proofs.Kept.{kept_or, known-with_text, taken-with_text, on_ok, is_among-map, not_both}
use Rattle.fresh_names.proofs.names.Names.make.Goals as goal

pub invariant_of-self : goal.invariant_of-self
invariant_of-self c =
    kept_or (λ texts. AreKnown (map (λ t. t.items) c.self.inside.fresh.keys) texts × AllTakenBelow (λ t. t.items) texts c.self.inside.first.entries) c.number.result c.self.inside.words c.number.new.words c.args.text.now c.number.ensures.table c.number.ensures.err
    c.self.invariant (known-with_text (map (λ t. t.items) c.self.inside.fresh.keys) c.self.inside.words c.args.text.now c.self.invariant.0, taken-with_text (λ t. t.items) c.self.inside.words c.args.text.now c.self.inside.first.entries c.self.invariant.1)

pub returns-then-contains-clause-taken : goal.returns-then-contains-clause-taken
returns-then-contains-clause-taken c = (
  λ _. (
    sym c.is_name.ensures ∙ c.if-not-is_name.false,
    ap (λ names. is_among c.args.text.now names.fresh) (sym c.self.view_is) ∙ is_among-map (λ t. t.items) c.args.text.now c.self.inside.fresh.keys ∙ sym c.contains.ensures ∙ c.if-contains.true,
  ),
  λ _. refl,
)

pub returns-clause-taken : goal.returns-clause-taken
returns-clause-taken c = (
  λ e. absurd (c.number.ensures.not_taken e),
  λ h. absurd (not_both (is_among c.args.text.now c.args.self.now.fresh) h.1
      (ap (λ names. is_among c.args.text.now names.fresh) (sym c.self.view_is) ∙ is_among-map (λ t. t.items) c.args.text.now c.self.inside.fresh.keys ∙ sym c.contains.ensures ∙ c.if-contains.false)),
)

pub returns-clause-apart : goal.returns-clause-apart
returns-clause-apart c =
    on_ok (is_among c.args.text.now c.args.self.now.fresh ≡ false) c.number.result
    (ap (λ names. is_among c.args.text.now names.fresh) (sym c.self.view_is) ∙ is_among-map (λ t. t.items) c.args.text.now c.self.inside.fresh.keys ∙ sym c.contains.ensures ∙ c.if-contains.false)

use Rattle.std.proofs.Common.{ap, ◌∙◌, map, ◌∷◌, ◌++◌, [], bytes_eq}
use Rattle.c_tokens.specs.Tokens.{with_text}
use Rattle.indexmap.specs.IndexSet.{insert_key}
use Rattle.fresh_names.specs.Names.{is_among, with_fresh}
use Rattle.fresh_names.proofs.Kept.{with_text-new, inserted-map, new-not_fresh, put-keeps, same_names}
use Rattle.fresh_names.proofs.names.Names.put.Goals as goal

pub invariant_of-self-in-Ok : goal.invariant_of-self-in-Ok
invariant_of-self-in-Ok c =
    put-keeps (λ t. t.items) (map (λ t. t.items) c.self.inside.fresh.keys) c.self.inside.words (map (λ t. t.items) c.insert.new.texts.keys) c.number.new.self c.args.text.items c.self.inside.first.entries
    (ap (map (λ t. t.items)) (c.insert.ensures ∙ ap (λ keys. insert_key (λ a b. bytes_eq a.items b.items) keys c.args.text) c.reserve.ensures.keys)
    ∙ inserted-map (λ t. t.items) c.args.text c.self.inside.fresh.keys
    (new-not_fresh (map (λ t. t.items) c.self.inside.fresh.keys) c.self.inside.words c.args.text.items c.self.invariant.0 (ap (λ names. is_among c.args.text.items names.texts) c.self.view_is ∙ c.requires.new)))
    (c.in-Ok.ensures.table ∙ ap (with_text c.self.inside.words) c.deref.ensures.value
    ∙ with_text-new c.args.text.items c.self.inside.words (ap (λ names. is_among c.args.text.items names.texts) c.self.view_is ∙ c.requires.new))
    c.self.invariant c.requires.word

pub returns-in-Ok-clause-names : goal.returns-in-Ok-clause-names
returns-in-Ok-clause-names c =
    same_names c.number.new.self (c.self.inside.words ++ c.args.text.items ∷ []) (map (λ t. t.items) c.insert.new.texts.keys) (map (λ t. t.items) c.self.inside.fresh.keys ++ c.args.text.items ∷ [])
    (c.in-Ok.ensures.table ∙ ap (with_text c.self.inside.words) c.deref.ensures.value
    ∙ with_text-new c.args.text.items c.self.inside.words (ap (λ names. is_among c.args.text.items names.texts) c.self.view_is ∙ c.requires.new))
    (ap (map (λ t. t.items)) (c.insert.ensures ∙ ap (λ keys. insert_key (λ a b. bytes_eq a.items b.items) keys c.args.text) c.reserve.ensures.keys)
    ∙ inserted-map (λ t. t.items) c.args.text c.self.inside.fresh.keys
    (new-not_fresh (map (λ t. t.items) c.self.inside.fresh.keys) c.self.inside.words c.args.text.items c.self.invariant.0 (ap (λ names. is_among c.args.text.items names.texts) c.self.view_is ∙ c.requires.new)))
    ∙ ap (λ names. with_fresh names c.args.text.items) c.self.view_is

use Rattle.std.proofs.Common.{◌≡◌, ap, sym, ◌∙◌, position, bytes_eq, is_some}
use Rattle.c_tokens.specs.Tokens.{with_text}
use Rattle.c_tokens.proofs.Texts.{position-map, with_text-known, inserted_table, inserted_place}
use Rattle.c_tokens.proofs.words.Words.number.Goals as goal

pub returns-in-Some-clause-number : goal.returns-in-Some-clause-number
returns-in-Some-clause-number c = sym (c.in-Some.ensures.index ∙ sym (position-map (bytes_eq c.args.text.now) (λ t. t.items) c.self.inside.texts.keys) ∙ ap (position (bytes_eq c.args.text.now)) c.self.view_is)

pub returns-in-Some-clause-table : goal.returns-in-Some-clause-table
returns-in-Some-clause-table c = sym (with_text-known _ _ (ap is_some (sym (c.in-Some.ensures.index ∙ sym (position-map (bytes_eq c.args.text.now) (λ t. t.items) c.self.inside.texts.keys) ∙ ap (position (bytes_eq c.args.text.now)) c.self.view_is))))

same_text : (c : goal.In_ok-at) → c.in_ok-owned.owned.items ≡ c.args.text.now
same_text c = c.in_ok-owned.ensures.items_if_clones_equal (λ x y e. e)

pub returns-clause-number : goal.returns-clause-number
returns-clause-number c =
    ap (position (bytes_eq c.args.text.now)) (inserted_table (λ t. t.items) c.args.text.now c.self.inside.texts.keys c.in_ok-owned.owned c.insert_full.new.self.keys (same_text c) c.in_ok-at.ensures.keys)
    ∙ inserted_place (λ t. t.items) c.args.text.now c.self.inside.texts.keys c.in_ok-owned.owned c.in_ok-at.at (same_text c) c.in_ok-at.ensures.index

pub returns-clause-table : goal.returns-clause-table
returns-clause-table c =
    inserted_table (λ t. t.items) c.args.text.now c.self.inside.texts.keys c.in_ok-owned.owned c.insert_full.new.self.keys (same_text c) c.in_ok-at.ensures.keys
    ∙ ap (λ names. with_text names c.args.text.now) c.self.view_is

use Rattle.std.proofs.Common.{◌≡◌, ◌<◌, ◌≤◌, ◌^◌, sym, ap, ◌∙◌, subst, false, map, length, bytes_eq, Some, position, IfOk, OnOk, arith}
use Rattle.fresh_names.specs.Names.{is_among, is_name, with_fresh, fresh_name}
use Rattle.fresh_names.proofs.Free.{least_free_is, found_name, found_small}
use Rattle.fresh_names.proofs.Kept.{taken-first, on_ok, new-not_fresh, found_word, is_long, is_short}
use Rattle.fresh_names.proofs.names.Names.fresh.Goals as goal

pub returns-then-not-is_name-clause-least : goal.returns-then-not-is_name-clause-least
returns-then-not-is_name-clause-least c = least_free_is c.args.base.now c.args.self.now.texts (omega (arith, c.requires))

pub returns-in-Err-clause-least : goal.returns-in-Err-clause-least
returns-in-Err-clause-least c = least_free_is c.args.base.now c.args.self.now.texts (omega (arith, c.requires))

pub returns-then-len-gt-MAX_WORD_BYTES-clause-least : goal.returns-then-len-gt-MAX_WORD_BYTES-clause-least
returns-then-len-gt-MAX_WORD_BYTES-clause-least c = least_free_is c.args.base.now c.args.self.now.texts (omega (arith, c.requires))

pub returns-clause-least : goal.returns-clause-least
returns-clause-least c = least_free_is c.args.base.now c.args.self.now.texts (omega (arith, c.requires))

pub free_text-requires-clause-below : goal.free_text-requires-clause-below
free_text-requires-clause-below c =
    taken-first (λ key. key.items) c.self.inside.words c.args.base.now c.self.inside.first.entries c.self.invariant.1 c.first_number-first.result c.first_number-first.ensures

pub returns-then-len-gt-MAX_WORD_BYTES-clause-bad_name : goal.returns-then-len-gt-MAX_WORD_BYTES-clause-bad_name
returns-then-len-gt-MAX_WORD_BYTES-clause-bad_name c =
    let long : 1023 < length c.in-Ok.found.0.items = omega arith in
    λ e. is_long (is_name c.args.base.now) c.in-Ok.found.0.items (fresh_name c.args.base.now c.args.self.now.texts) (found_name c.args.base.now c.self.inside.words c.in-Ok.found.1 c.in-Ok.found.0.items (subst (λ names. length names.texts < 2 ^ 32) (sym c.self.view_is) (omega (arith, c.requires))) c.in-Ok.ensures.text c.in-Ok.ensures.least ∙ ap (λ names. fresh_name c.args.base.now names.texts) c.self.view_is) long

pub give-requires-clause-word : goal.give-requires-clause-word
give-requires-clause-word c =
    found_word c.args.base.now c.in-Ok.found.0.items c.in-Ok.found.1 (found_small c.args.base.now c.self.inside.words c.in-Ok.found.1 (subst (λ names. length names.texts < 2 ^ 32) (sym c.self.view_is) (omega (arith, c.requires))) c.in-Ok.ensures.least) c.in-Ok.ensures.text (sym c.is_name.ensures ∙ c.if-not-is_name.false)

pub returns-clause-good_name : goal.returns-clause-good_name
returns-clause-good_name c =
    let short : length c.in-Ok.found.0.items ≤ 1023 = omega arith in
    on_ok _ c.give.result (is_short (is_name c.args.base.now) c.in-Ok.found.0.items (fresh_name c.args.base.now c.args.self.now.texts) (sym c.is_name.ensures ∙ c.if-not-is_name.false) (found_name c.args.base.now c.self.inside.words c.in-Ok.found.1 c.in-Ok.found.0.items (subst (λ names. length names.texts < 2 ^ 32) (sym c.self.view_is) (omega (arith, c.requires))) c.in-Ok.ensures.text c.in-Ok.ensures.least ∙ ap (λ names. fresh_name c.args.base.now names.texts) c.self.view_is) short)

pub returns-clause-word : goal.returns-clause-word
returns-clause-word c =
    subst (λ t. IfOk c.give.result (λ word. position (bytes_eq t) c.give.new.self.texts ≡ Some word.0)) (found_name c.args.base.now c.self.inside.words c.in-Ok.found.1 c.in-Ok.found.0.items (subst (λ names. length names.texts < 2 ^ 32) (sym c.self.view_is) (omega (arith, c.requires))) c.in-Ok.ensures.text c.in-Ok.ensures.least ∙ ap (λ names. fresh_name c.args.base.now names.texts) c.self.view_is) c.give.ensures.word

pub returns-clause-names : goal.returns-clause-names
returns-clause-names c = subst (λ t. OnOk c.give.result (c.give.new.self ≡ with_fresh c.args.self.now t)) (found_name c.args.base.now c.self.inside.words c.in-Ok.found.1 c.in-Ok.found.0.items (subst (λ names. length names.texts < 2 ^ 32) (sym c.self.view_is) (omega (arith, c.requires))) c.in-Ok.ensures.text c.in-Ok.ensures.least ∙ ap (λ names. fresh_name c.args.base.now names.texts) c.self.view_is) c.give.ensures.names

pub returns-clause-apart : goal.returns-clause-apart
returns-clause-apart c =
    on_ok _ c.give.result
    (subst (λ names. is_among (fresh_name c.args.base.now names.texts) names.fresh ≡ false) c.self.view_is
    (new-not_fresh (map (λ t. t.items) c.self.inside.fresh.keys) c.self.inside.words (fresh_name c.args.base.now c.self.inside.words) c.self.invariant.0 (least_free_is c.args.base.now c.self.inside.words (subst (λ names. length names.texts < 2 ^ 32) (sym c.self.view_is) (omega (arith, c.requires)))).free))

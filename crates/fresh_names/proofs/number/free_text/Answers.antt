use Rattle.std.proofs.Common.{◌≡◌, ◌≤◌, ◌+◌, true, sym, ap, ◌∙◌, length, arith}
use Rattle.fresh_names.specs.Names.{is_among, numbered}
use Rattle.fresh_names.proofs.Free.{taken-fits, taken_more}
use Rattle.fresh_names.proofs.Kept.{not_says, not_denies}
use Rattle.fresh_names.proofs.number.free_text.Goals as goal

pub returns-then-is_free-clause-least : goal.returns-then-is_free-clause-least
returns-then-is_free-clause-least c = record {
  free = ap (λ t. is_among t c.args.words.now) (sym (c.deref.ensures.value ∙ c.in_ok-text.ensures)) ∙ not_says _ (sym c.is_free.ensures ∙ c.if-is_free.true);
  below = c.loop-text.invariant;
}

pub overflow_add-number : goal.overflow_add-number
overflow_add-number c =
    let known : is_among (numbered c.args.base.now c.loop-text.number) c.args.words.now ≡ true = ap (λ t. is_among t c.args.words.now) (sym (c.deref.ensures.value ∙ c.in_ok-text.ensures)) ∙ not_denies _ (sym c.is_free.ensures ∙ c.if-is_free.false) in
    let fits : c.loop-text.number + 1 ≤ length c.args.words.now = taken-fits c.args.base.now c.args.words.now c.loop-text.number (omega arith) c.loop-text.invariant known in
    omega (arith, c.requires.few)

pub loop-text-smaller : goal.loop-text-smaller
loop-text-smaller c =
    let known : is_among (numbered c.args.base.now c.loop-text.number) c.args.words.now ≡ true = ap (λ t. is_among t c.args.words.now) (sym (c.deref.ensures.value ∙ c.in_ok-text.ensures)) ∙ not_denies _ (sym c.is_free.ensures ∙ c.if-is_free.false) in
    let fits : c.loop-text.number + 1 ≤ length c.args.words.now = taken-fits c.args.base.now c.args.words.now c.loop-text.number (omega arith) c.loop-text.invariant known in
    omega arith

pub loop-text-preserved : goal.loop-text-preserved
loop-text-preserved c =
    taken_more c.args.base.now c.args.words.now c.loop-text.number c.loop-text.invariant (ap (λ t. is_among t c.args.words.now) (sym (c.deref.ensures.value ∙ c.in_ok-text.ensures)) ∙ not_denies _ (sym c.is_free.ensures ∙ c.if-is_free.false))

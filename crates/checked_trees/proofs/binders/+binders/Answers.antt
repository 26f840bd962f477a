use Rattle.std.proofs.Common.{ap, sym, ◌∙◌, arith}
use Rattle.pattern_language.specs.Patterns.{pattern_of}
use Rattle.pattern_language.proofs.Elements.{rest_literal, rest_bind, rest_repeat, rest_maybe}
use Rattle.checked_trees.specs.Bindings.{binders}
use Rattle.checked_trees.proofs.binders.+binders.Goals.{in-Literal, in-Bind+in_ok-count-in-Bind, in-Repeat+in_ok-binders-in-Repeat+in_ok-count-in-Repeat, in-Maybe+in_ok-binders-in-Maybe+in_ok-count-in-Maybe}
use Rattle.checked_trees.proofs.binders.+binders.Goals as goal

pub loop-element-preserved : goal.loop-element-preserved
unfolding binders
loop-element-preserved t c = elim c.match-element.branch [
  | in-Literal w ↦
      let at = rest_literal c.args.pattern.now c.loop-element.element-index c.element-item.result w.in-Literal.token c.loop-element-test.true (sym c.element-item.is ∙ w.in-Literal.is) in
      omega (arith, ap binders at)
  | in-Bind+in_ok-count-in-Bind w ↦
      let at = rest_bind c.args.pattern.now c.loop-element.element-index c.element-item.result w.in-Bind.kind w.in-Bind.name w.in-Bind.span c.loop-element-test.true (sym c.element-item.is ∙ w.in-Bind.is) in
      omega (arith, ap binders at)
  | in-Repeat+in_ok-binders-in-Repeat+in_ok-count-in-Repeat w ↦
      let at = rest_repeat c.args.pattern.now c.loop-element.element-index c.element-item.result w.in-Repeat.least w.in-Repeat.sep w.in-Repeat.body w.in-Repeat.span c.loop-element-test.true (sym c.element-item.is ∙ w.in-Repeat.is) in
      omega (arith, ap binders at, w.in_ok-binders-in-Repeat.ensures ∙ ap (λ b. binders (pattern_of b)) w.as_slice.ensures)
  | in-Maybe+in_ok-binders-in-Maybe+in_ok-count-in-Maybe w ↦
      let at = rest_maybe c.args.pattern.now c.loop-element.element-index c.element-item.result w.in-Maybe.intro w.in-Maybe.body w.in-Maybe.span c.loop-element-test.true (sym c.element-item.is ∙ w.in-Maybe.is) in
      omega (arith, ap binders at, w.in_ok-binders-in-Maybe.ensures ∙ ap (λ b. binders (pattern_of b)) w.as_slice-in-Maybe.ensures)
]

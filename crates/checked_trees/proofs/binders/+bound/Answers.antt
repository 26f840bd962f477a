use Rattle.std.proofs.Common.{◌≡◌, ◌<◌, ◌≤◌, ◌+◌, ◌-◌, ap, sym, subst, ◌∙◌, arith, drop, IfOk, Option}
use Rattle.pattern_language.specs.Patterns.{pattern_of}
use Rattle.pattern_language.proofs.Elements.{rest_literal, rest_bind, rest_repeat, rest_maybe}
use Rattle.c_forms.specs.Forests.{Plain, forest}
use Rattle.checked_trees.specs.Bindings.{binders, has_one_part, in_list, bound_to}
use Rattle.checked_trees.proofs.BinderSteps.{after_bind, in_repeat, after_repeat, in_maybe, after_maybe}
use Rattle.checked_trees.proofs.binders.+bound.Goals.{bound_to-in-Literal, bound_to-in-Bind+else-left-eq0, bound_to-in-Repeat+in_ok-inside-in-Repeat+else-left-inside, bound_to-in-Maybe+in_ok-inside-in-Maybe+else-left-inside-2}
use Rattle.checked_trees.proofs.binders.+bound.Goals as goal

pub bound_to-returns-then-left-inside : goal.bound_to-returns-then-left-inside
unfolding bound_to
bound_to-returns-then-left-inside t c =
    let later = pattern_of (drop (c.loop-element.element-index + 1) c.args.pattern.now) in
    let at = rest_repeat c.args.pattern.now c.loop-element.element-index c.element-item.result c.in-Repeat.least c.in-Repeat.sep c.in-Repeat.body c.in-Repeat.span c.loop-element-test.true (sym c.element-item.is ∙ c.in-Repeat.is) in
    let below : c.loop-element.left < binders (pattern_of c.in-Repeat.body) = omega (arith, c.in_ok-inside-in-Repeat.ensures ∙ ap (λ b. binders (pattern_of b)) c.as_slice.ensures) in
    let P : Option Plain → Type 0 = λ v. IfOk c.in_list.result (λ made. made ≡ v) in
    subst P
    (ap (λ b. in_list (λ qs. bound_to (pattern_of b) c.loop-element.left qs) (has_one_part (pattern_of b)) (forest c.loop-element.rest.now)) c.as_slice-then-left-inside.ensures
    ∙ sym (in_repeat c.in-Repeat.least c.in-Repeat.sep (pattern_of c.in-Repeat.body) later c.loop-element.left (forest c.loop-element.rest.now) below)
    ∙ sym (ap (λ p. bound_to p c.loop-element.left (forest c.loop-element.rest.now)) at)
    ∙ c.loop-element.invariant.same)
    c.in_list.ensures

pub bound_to-returns-then-left-inside-2 : goal.bound_to-returns-then-left-inside-2
unfolding bound_to
bound_to-returns-then-left-inside-2 t c =
    let later = pattern_of (drop (c.loop-element.element-index + 1) c.args.pattern.now) in
    let at = rest_maybe c.args.pattern.now c.loop-element.element-index c.element-item.result c.in-Maybe.intro c.in-Maybe.body c.in-Maybe.span c.loop-element-test.true (sym c.element-item.is ∙ c.in-Maybe.is) in
    let below : c.loop-element.left < binders (pattern_of c.in-Maybe.body) = omega (arith, c.in_ok-inside-in-Maybe.ensures ∙ ap (λ b. binders (pattern_of b)) c.as_slice-in-Maybe.ensures) in
    let P : Option Plain → Type 0 = λ v. IfOk c.in_list-then-left-inside-2.result (λ made. made ≡ v) in
    subst P
    (ap (λ b. in_list (λ qs. bound_to (pattern_of b) c.loop-element.left qs) (has_one_part (pattern_of b)) (forest c.loop-element.rest.now)) c.as_slice-then-left-inside-2.ensures
    ∙ sym (in_maybe c.in-Maybe.intro (pattern_of c.in-Maybe.body) later c.loop-element.left (forest c.loop-element.rest.now) below)
    ∙ sym (ap (λ p. bound_to p c.loop-element.left (forest c.loop-element.rest.now)) at)
    ∙ c.loop-element.invariant.same)
    c.in_list-then-left-inside-2.ensures

pub bound_to-loop-element-preserved : goal.bound_to-loop-element-preserved
unfolding bound_to
bound_to-loop-element-preserved t c =
    let later = pattern_of (drop (c.loop-element.element-index + 1) c.args.pattern.now) in
    let left = c.loop-element.left in
    let rest = forest c.loop-element.rest.now in
    elim c.match-element.branch [
      | bound_to-in-Literal w ↦
          let at = rest_literal c.args.pattern.now c.loop-element.element-index c.element-item.result w.in-Literal.token c.loop-element-test.true (sym c.element-item.is ∙ w.in-Literal.is) in
          record {
            same = ap (λ n. bound_to later n (forest c.match-element.rest.now)) w.left-is ∙ ap (λ r. bound_to later left (forest r.now)) w.rest-is ∙ sym (ap (λ p. bound_to p left rest) at) ∙ c.loop-element.invariant.same;
            less = omega arith;
          }
      | bound_to-in-Bind+else-left-eq0 w ↦
          let at = rest_bind c.args.pattern.now c.loop-element.element-index c.element-item.result w.in-Bind.kind w.in-Bind.name w.in-Bind.span c.loop-element-test.true (sym c.element-item.is ∙ w.in-Bind.is) in
          record {
            same = ap (λ n. bound_to later n (forest c.match-element.rest.now)) w.left-is ∙ ap (λ r. bound_to later (left - 1) (forest r.now)) w.rest-is ∙ ap (λ q. bound_to later (left - 1) q) w.after_first-rest.ensures
                ∙ sym (after_bind w.in-Bind.kind w.in-Bind.name later left rest w.if-left-eq0.false)
                ∙ sym (ap (λ p. bound_to p left rest) at)
                ∙ c.loop-element.invariant.same;
            less = omega arith;
          }
      | bound_to-in-Repeat+in_ok-inside-in-Repeat+else-left-inside w ↦
          let at = rest_repeat c.args.pattern.now c.loop-element.element-index c.element-item.result w.in-Repeat.least w.in-Repeat.sep w.in-Repeat.body w.in-Repeat.span c.loop-element-test.true (sym c.element-item.is ∙ w.in-Repeat.is) in
          let body = pattern_of w.in-Repeat.body in
          let inside = w.in_ok-inside-in-Repeat.ensures ∙ ap (λ b. binders (pattern_of b)) w.as_slice.ensures in
          let past : binders body ≤ left = omega (arith, inside) in
          record {
            same = ap (λ n. bound_to later n (forest c.match-element.rest.now)) (w.left-is ∙ ap (λ n. left - n) inside) ∙ ap (λ r. bound_to later (left - binders body) (forest r.now)) w.rest-is ∙ ap (λ q. bound_to later (left - binders body) q) w.after_first-rest-in-Repeat.ensures
                ∙ sym (after_repeat w.in-Repeat.least w.in-Repeat.sep body later left rest past)
                ∙ sym (ap (λ p. bound_to p left rest) at)
                ∙ c.loop-element.invariant.same;
            less = omega arith;
          }
      | bound_to-in-Maybe+in_ok-inside-in-Maybe+else-left-inside-2 w ↦
          let at = rest_maybe c.args.pattern.now c.loop-element.element-index c.element-item.result w.in-Maybe.intro w.in-Maybe.body w.in-Maybe.span c.loop-element-test.true (sym c.element-item.is ∙ w.in-Maybe.is) in
          let body = pattern_of w.in-Maybe.body in
          let inside = w.in_ok-inside-in-Maybe.ensures ∙ ap (λ b. binders (pattern_of b)) w.as_slice-in-Maybe.ensures in
          let past : binders body ≤ left = omega (arith, inside) in
          record {
            same = ap (λ n. bound_to later n (forest c.match-element.rest.now)) (w.left-is ∙ ap (λ n. left - n) inside) ∙ ap (λ r. bound_to later (left - binders body) (forest r.now)) w.rest-is ∙ ap (λ q. bound_to later (left - binders body) q) w.after_first-rest-in-Maybe.ensures
                ∙ sym (after_maybe w.in-Maybe.intro body later left rest past)
                ∙ sym (ap (λ p. bound_to p left rest) at)
                ∙ c.loop-element.invariant.same;
            less = omega arith;
          }
    ]

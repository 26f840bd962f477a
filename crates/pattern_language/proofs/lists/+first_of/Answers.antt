use Rattle.std.proofs.Common.{◌≡◌, ◌+◌, Bool, ◌||◌, ◌&&◌, nat_eq, ap, sym, ◌∙◌, drop}
use Rattle.pattern_language.specs.Sets.{has}
use Rattle.pattern_language.specs.Classes.{only}
use Rattle.pattern_language.specs.Patterns.{pattern_of, first_of, token_class}
use Rattle.pattern_language.proofs.Elements.{rest_literal, rest_bind, rest_repeat, rest_maybe}
use Rattle.pattern_language.proofs.SetLemmas.{or_assoc}
use Rattle.pattern_language.proofs.lists.+first_of.Goals.{in-Repeat+else-least-ne0, in-Maybe}
use Rattle.pattern_language.proofs.lists.+first_of.Goals as goal

pub returns-in-Literal : goal.returns-in-Literal
unfolding first_of
returns-in-Literal t c = λ class.
    let at = rest_literal c.args.pattern.now c.loop-element.element-index c.element-item.result c.in-Literal.token c.loop-element-test.true (sym c.element-item.is ∙ c.in-Literal.is) in
    c.with.ensures class ∙ ap (λ k. has c.loop-element.set class || only k class) c.of.ensures ∙ sym (ap (λ p. has c.loop-element.set class || first_of p class) at) ∙ c.loop-element.invariant class

pub returns-in-Bind : goal.returns-in-Bind
unfolding first_of
returns-in-Bind t c = λ class.
    let at = rest_bind c.args.pattern.now c.loop-element.element-index c.element-item.result c.in-Bind.kind c.in-Bind.name c.in-Bind.span c.loop-element-test.true (sym c.element-item.is ∙ c.in-Bind.is) in
    c.union.ensures class ∙ ap (λ b. has c.loop-element.set class || b) (c.first.ensures class) ∙ sym (ap (λ p. has c.loop-element.set class || first_of p class) at) ∙ c.loop-element.invariant class

skip : (now before more rest here all : Bool) → now ≡ (before || more) → here ≡ (more || rest) → (before || here) ≡ all → (now || rest) ≡ all
skip now before more rest here all e h inv = ap (λ b. b || rest) e ∙ sym (or_assoc before more rest) ∙ ap (λ b. before || b) (sym h) ∙ inv

pub loop-element-preserved : goal.loop-element-preserved
unfolding first_of
loop-element-preserved t c = λ class. elim c.match-element.branch [
  | in-Repeat+else-least-ne0 w ↦
      let later = pattern_of (drop (c.loop-element.element-index + 1) c.args.pattern.now) in
      let body = pattern_of w.in-Repeat.body in
      let at = rest_repeat c.args.pattern.now c.loop-element.element-index c.element-item.result w.in-Repeat.least w.in-Repeat.sep w.in-Repeat.body w.in-Repeat.span c.loop-element-test.true (sym c.element-item.is ∙ w.in-Repeat.is) in
      skip (has c.match-element.set class) (has c.loop-element.set class) (first_of body class) (first_of later class) _ _
      (ap (λ s. has s class) w.set-is ∙ w.union-set.ensures class ∙ ap (λ b. has c.loop-element.set class || b) (w.first_of.ensures class ∙ ap (λ b. first_of (pattern_of b) class) w.as_slice.ensures))
      (ap (λ p. first_of p class) at ∙ ap (λ n. first_of body class || (nat_eq n 0 && first_of later class)) w.if-least-ne0.false)
      (c.loop-element.invariant class)
  | in-Maybe w ↦
      let later = pattern_of (drop (c.loop-element.element-index + 1) c.args.pattern.now) in
      let at = rest_maybe c.args.pattern.now c.loop-element.element-index c.element-item.result w.in-Maybe.intro w.in-Maybe.body w.in-Maybe.span c.loop-element-test.true (sym c.element-item.is ∙ w.in-Maybe.is) in
      skip (has c.match-element.set class) (has c.loop-element.set class) (only (token_class w.in-Maybe.intro) class) (first_of later class) _ _
      (ap (λ s. has s class) w.set-is ∙ w.with-set.ensures class ∙ ap (λ k. has c.loop-element.set class || only k class) w.of-in-Maybe.ensures)
      (ap (λ p. first_of p class) at)
      (c.loop-element.invariant class)
]

use Rattle.std.proofs.Common.{◌≡◌, ◌≢◌, ◌+◌, ℕ, Bool, true, false, ◌||◌, ◌&&◌, nat_eq, ap, sym, ◌∙◌, refl, drop, arith}
use Rattle.std.proofs.lemmas.Bool.Decides.{eqb_tells}
use Rattle.pattern_language.specs.Sets.{has}
use Rattle.pattern_language.specs.Classes.{only}
use Rattle.pattern_language.specs.Patterns.{pattern_of, can_be_empty, cont_of, between, token_class}
use Rattle.pattern_language.proofs.SetLemmas.{or_assoc}
use Rattle.pattern_language.proofs.Elements.{rest_literal, rest_bind, rest_repeat, rest_maybe}
use Rattle.pattern_language.proofs.lists.+cont_of.Goals.{in-Literal, in-Bind, in-Repeat+then-least-eq0, in-Repeat+else-least-eq0, in-Maybe}
use Rattle.pattern_language.proofs.lists.+cont_of.Goals as goal

distributed : (empty before more later : Bool) → ((empty && (before || more)) || later) ≡ ((empty && before) || ((empty && more) || later))
distributed true before more later = sym (or_assoc before more later)
distributed false before more later = refl

-- The element can be empty, so what was kept goes on beside what it gives.
skipped : (now before more empty later here_empty here all : Bool) → now ≡ (before || more) → here_empty ≡ empty → here ≡ ((empty && more) || later) → ((here_empty && before) || here) ≡ all → ((empty && now) || later) ≡ all
skipped now before more empty later here_empty here all e f g inv =
    ap (λ b. (empty && b) || later) e ∙ distributed empty before more later ∙ sym (ap (λ b. (b && before) || here) f ∙ ap (λ b. (empty && before) || b) g) ∙ inv

-- The element cannot be empty, so only what it gives goes on.
begun : (now before empty later here_empty here all : Bool) → here_empty ≡ false → here ≡ ((empty && now) || later) → ((here_empty && before) || here) ≡ all → ((empty && now) || later) ≡ all
begun now before empty later here_empty here all f g inv = sym g ∙ sym (ap (λ b. (b && before) || here) f) ∙ inv

nothing_more : (empty now later : Bool) → now ≡ false → ((empty && now) || later) ≡ later
nothing_more true now later e = ap (λ b. b || later) e
nothing_more false now later e = refl

not_zero : (n : ℕ) → n ≢ 0 → nat_eq n 0 ≡ false
not_zero n h = grind (arith, eqb_tells n 0)

pub loop-element-preserved : goal.loop-element-preserved
unfolding cont_of can_be_empty
loop-element-preserved t c = λ class.
    let later = pattern_of (drop (c.loop-element.element-index + 1) c.args.pattern.now) in
    let here = pattern_of (drop c.loop-element.element-index c.args.pattern.now) in
    let empty = can_be_empty later in
    let all = cont_of (pattern_of c.args.pattern.now) class in
    elim c.match-element.branch [
      | in-Literal w ↦
          let at = rest_literal c.args.pattern.now c.loop-element.element-index c.element-item.result w.in-Literal.token c.loop-element-test.true (sym c.element-item.is ∙ w.in-Literal.is) in
          begun (has c.match-element.set class) (has c.loop-element.set class) empty (cont_of later class) (can_be_empty here) (cont_of here class) all
          (ap can_be_empty at)
          (ap (λ p. cont_of p class) at ∙ sym (nothing_more empty (has c.match-element.set class) (cont_of later class) (ap (λ s. has s class) w.set-is ∙ w.empty-set-in-Literal.ensures class)))
          (c.loop-element.invariant class)
      | in-Bind w ↦
          let at = rest_bind c.args.pattern.now c.loop-element.element-index c.element-item.result w.in-Bind.kind w.in-Bind.name w.in-Bind.span c.loop-element-test.true (sym c.element-item.is ∙ w.in-Bind.is) in
          begun (has c.match-element.set class) (has c.loop-element.set class) empty (cont_of later class) (can_be_empty here) (cont_of here class) all
          (ap can_be_empty at)
          (ap (λ p. cont_of p class) at ∙ sym (ap (λ b. (empty && b) || cont_of later class) (ap (λ s. has s class) w.set-is ∙ w.cont-set.ensures class)))
          (c.loop-element.invariant class)
      | in-Repeat+then-least-eq0 w ↦
          let at = rest_repeat c.args.pattern.now c.loop-element.element-index c.element-item.result w.in-Repeat.least w.in-Repeat.sep w.in-Repeat.body w.in-Repeat.span c.loop-element-test.true (sym c.element-item.is ∙ w.in-Repeat.is) in
          let body = pattern_of w.in-Repeat.body in
          let gives = cont_of body class || between w.in-Repeat.sep body class in
          let of_body : has w.cont_of.result class ≡ cont_of body class = w.cont_of.ensures class ∙ ap (λ b. cont_of (pattern_of b) class) w.as_slice.ensures in
          let of_between : has w.between.result class ≡ between w.in-Repeat.sep body class = w.between.ensures class ∙ ap (λ b. between w.in-Repeat.sep (pattern_of b) class) w.as_slice-in-Repeat.ensures in
          let more : has w.union-more.result class ≡ gives = w.union-more.ensures class ∙ ap (λ b. b || has w.between.result class) of_body ∙ ap (λ b. cont_of body class || b) of_between in
          skipped (has c.match-element.set class) (has c.loop-element.set class) gives empty (cont_of later class) (can_be_empty here) (cont_of here class) all
          (ap (λ s. has s class) w.set-is ∙ w.union-set.ensures class ∙ ap (λ b. has c.loop-element.set class || b) more)
          (ap can_be_empty at ∙ ap (λ n. nat_eq n 0 && empty) w.if-least-eq0.true)
          (ap (λ p. cont_of p class) at)
          (c.loop-element.invariant class)
      | in-Repeat+else-least-eq0 w ↦
          let at = rest_repeat c.args.pattern.now c.loop-element.element-index c.element-item.result w.in-Repeat.least w.in-Repeat.sep w.in-Repeat.body w.in-Repeat.span c.loop-element-test.true (sym c.element-item.is ∙ w.in-Repeat.is) in
          let body = pattern_of w.in-Repeat.body in
          let gives = cont_of body class || between w.in-Repeat.sep body class in
          let of_body : has w.cont_of.result class ≡ cont_of body class = w.cont_of.ensures class ∙ ap (λ b. cont_of (pattern_of b) class) w.as_slice.ensures in
          let of_between : has w.between.result class ≡ between w.in-Repeat.sep body class = w.between.ensures class ∙ ap (λ b. between w.in-Repeat.sep (pattern_of b) class) w.as_slice-in-Repeat.ensures in
          let more : has w.union-more.result class ≡ gives = w.union-more.ensures class ∙ ap (λ b. b || has w.between.result class) of_body ∙ ap (λ b. cont_of body class || b) of_between in
          begun (has c.match-element.set class) (has c.loop-element.set class) empty (cont_of later class) (can_be_empty here) (cont_of here class) all
          (ap can_be_empty at ∙ ap (λ b. b && empty) (not_zero w.in-Repeat.least w.if-least-eq0.false))
          (ap (λ p. cont_of p class) at ∙ sym (ap (λ b. (empty && b) || cont_of later class) (ap (λ s. has s class) w.set-is ∙ more)))
          (c.loop-element.invariant class)
      | in-Maybe w ↦
          let at = rest_maybe c.args.pattern.now c.loop-element.element-index c.element-item.result w.in-Maybe.intro w.in-Maybe.body w.in-Maybe.span c.loop-element-test.true (sym c.element-item.is ∙ w.in-Maybe.is) in
          let body = pattern_of w.in-Maybe.body in
          let gives = cont_of body class || only (token_class w.in-Maybe.intro) class in
          let of_body : has w.cont_of-in-Maybe.result class ≡ cont_of body class = w.cont_of-in-Maybe.ensures class ∙ ap (λ b. cont_of (pattern_of b) class) w.as_slice-in-Maybe.ensures in
          let more : has w.with-more.result class ≡ gives = w.with-more.ensures class ∙ ap (λ b. b || only w.of.result class) of_body ∙ ap (λ k. cont_of body class || only k class) w.of.ensures in
          skipped (has c.match-element.set class) (has c.loop-element.set class) gives empty (cont_of later class) (can_be_empty here) (cont_of here class) all
          (ap (λ s. has s class) w.set-is ∙ w.union-set-in-Maybe.ensures class ∙ ap (λ b. has c.loop-element.set class || b) more)
          (ap can_be_empty at)
          (ap (λ p. cont_of p class) at)
          (c.loop-element.invariant class)
    ]

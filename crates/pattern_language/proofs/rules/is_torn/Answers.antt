use Rattle.std.proofs.Common.{◌≡◌, sym, inl, inr, IsTrue, false, Bool}
use Rattle.pattern_language.specs.Sets.{has}
use Rattle.pattern_language.specs.Patterns.{pattern_of, between, first_of}
use Rattle.pattern_language.specs.Rules.{next}
use Rattle.pattern_language.specs.Contexts.{place_of}
use Rattle.pattern_language.proofs.Meeting.{meets_alike}
use Rattle.pattern_language.proofs.rules.is_torn.Goals as goal

no : (b : Bool) → b ≡ false → IsTrue b → ⊥
no b f t = cc

pub returns-then-least-eq0 : goal.returns-then-least-eq0
returns-then-least-eq0 c =
    let body = pattern_of c.args.body.now in
    let follow = next (pattern_of c.args.after.now) (place_of c.args.context.now) in (
      λ yes. inr (c.if-least-eq0.true, meets_alike (has c.first_of.result) (has c.next-next.result) (first_of body) follow c.first_of.ensures c.next-next.ensures (c.meets-then-least-eq0.ensures.0 yes)),
      λ h. elim h [
        | inl m ↦ absurd (no c.meets.result c.if-meets.false (c.meets.ensures.1 (meets_alike (between c.args.sep.now body) follow (has c.between.result) (has c.next-next.result) (λ k. sym (c.between.ensures k)) (λ k. sym (c.next-next.ensures k)) m)))
        | inr m ↦ c.meets-then-least-eq0.ensures.1 (meets_alike (first_of body) follow (has c.first_of.result) (has c.next-next.result) (λ k. sym (c.first_of.ensures k)) (λ k. sym (c.next-next.ensures k)) m.1)
      ],
    )

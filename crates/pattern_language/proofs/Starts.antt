-- Where the whole pattern stands.
use Rattle.std.proofs.Common.{◌≡◌, ap, ◌∙◌, subst, ℕ, List, [], true}
use Rattle.c_tokens.specs.declared.token.Word.{Word}
use Rattle.c_tokens.specs.declared.kind.MetaType.{MetaType}
use Rattle.c_tokens.specs.declared.element.Element.{Element}
use Rattle.pattern_language.specs.Classes.{Classes, nothing}
use Rattle.pattern_language.specs.Rules.{Place, Site, sites, start, Fails}
use Rattle.pattern_language.specs.Patterns.{pattern_of}
use Rattle.pattern_language.proofs.Before.{before_nothing}
use Rattle.pattern_language.proofs.Insides.{same_classes}

pub ruleset starts = (before_nothing, same_classes)

pub place_starts : (earlier : List Word) (follow : Classes) → earlier ≡ [] → follow ≡ nothing → (let q : Place = record { depth = 0; earlier = earlier; follow = follow; ends = true; whole = true } in q) ≡ start
place_starts earlier follow e f = ap (λ n. let q : Place = record { depth = 0; earlier = n; follow = follow; ends = true; whole = true } in q) e ∙ ap (λ s. let q : Place = record { depth = 0; earlier = []; follow = s; ends = true; whole = true } in q) f

pub fails_from : (result : MetaType) (slice es : List Element) (q : Place) (element rule : ℕ) → slice ≡ es → q ≡ start → Fails result (sites (pattern_of slice) q) 0 element rule → Fails result (sites (pattern_of es) start) 0 element rule
fails_from result slice es q element rule e f fails =
    let P : List Site → Type 0 = λ s. Fails result s 0 element rule in
    subst P (ap (λ xs. sites (pattern_of xs) q) e ∙ ap (λ k. sites (pattern_of es) k) f) fails

-- The binders before a place, list by list.
use Rattle.std.proofs.Common.{◌≡◌, ap, sym, ◌∙◌, List, [], ◌++◌, Bor}
use Rattle.c_tokens.specs.declared.token.Word.{Word}
use Rattle.c_tokens.specs.declared.element.Element.{Element}
use Rattle.pattern_language.specs.declared.earlier.Earlier.{Earlier, fold-roll-Earlier}
use Rattle.pattern_language.specs.declared.earlier.Earlier.TheOpen.{Earlier-F}
use Rattle.pattern_language.specs.declared.earlier.Earlier.TheVariants as v
use Rattle.pattern_language.specs.declared.earlier.Earlier.TheVariants.{rolls-Nothing, rolls-Elements}
use Rattle.pattern_language.specs.Patterns.{pattern_of, names}
use Rattle.pattern_language.specs.Earlier.{names_before, names_at}
use Rattle.pattern_language.proofs.Elements.{is_among-append}

pub before_nothing : names_before v.Nothing ≡ []
unfolding names_before
before_nothing = ap names_before (sym rolls-Nothing) ∙ fold-roll-Earlier (List Word) names_at Earlier-F.Nothing

pub before_elements : (elements : Bor (List Element)) (outer : Bor Earlier) → names_before (v.Elements elements outer) ≡ names_before outer.now ++ names (pattern_of elements.now)
unfolding names_before
before_elements elements outer = ap names_before (sym (rolls-Elements elements outer)) ∙ fold-roll-Earlier (List Word) names_at (Earlier-F.Elements elements outer)

pub ruleset befores = (before_nothing, before_elements, is_among-append)

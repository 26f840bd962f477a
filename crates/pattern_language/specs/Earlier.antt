-- The binders before a place.
use Rattle.std.specs.Prelude.{List, [], ◌++◌}
use Rattle.c_tokens.specs.declared.token.Word.{Word}
use Rattle.pattern_language.specs.declared.earlier.Earlier.{Earlier, fold-Earlier}
use Rattle.pattern_language.specs.declared.earlier.Earlier.TheOpen.{Earlier-F}
use Rattle.pattern_language.specs.Patterns.{pattern_of, names}

abbrev pub names_at : Earlier-F (List Word) → List Word
names_at Earlier-F.Nothing = []
names_at (Earlier-F.Elements elements outer) = outer.now ++ names (pattern_of elements.now)

-- the names of the binders in the order of writing
unfoldable pub names_before : Earlier → List Word
names_before e = fold-Earlier (List Word) names_at e

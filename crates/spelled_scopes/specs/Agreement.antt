-- The scopes of what is spelled, said in two ways that agree.
use Rattle.std.specs.Prelude.{◌≡◌, ℕ, List, [], ◌∷◌}
use Rattle.c_tokens.specs.declared.span.Span.{Span}
use Rattle.c_tokens.specs.declared.token.Shape.{Shape}
use Rattle.c_forms.specs.declared.pieces.Sort.{Sort}
use Rattle.c_forms.specs.declared.pieces.Sort.TheVariants as s
use Rattle.c_forms.specs.Forests.{Plain, Forest, empty, tree}
use Rattle.c_reader.specs.States.{State, nothing_kept}
use Rattle.c_reader.specs.Tokens.{Spot}
use Rattle.c_syntax.specs.Spells.{Spells}
use Rattle.scopes.specs.Events.{events}
use Rattle.scopes.specs.Settling.{Scoped, settled}
use Rattle.spelled_scopes.specs.Meant.{frames}

-- no declaration is begun
abbrev pub IsFree : State → Type 0
IsFree s = s.kept ≡ nothing_kept

-- The events of the tree hold in the scopes that the first state means, and lead to those that the second means.
abbrev pub AreScoped : Plain → State → State → Type 0
AreScoped t s u = settled (events t) (frames s.entries) ≡ Scoped (frames u.entries)

-- What is spelled as a sort where no declaration is begun is scoped.
abbrev pub Agrees : Sort → Type 0
Agrees due = (d : ℕ) (w : List Shape) (least : ℕ) (t : Plain) (i j : Spot) → Spells d w due least t i j → IsFree i.state → AreScoped t i.state j.state

-- ---- trees that are equal but for their spans

abbrev pub no_span : Span
no_span = record { start = 0; «end» = 0 }

-- with all spans left out
abbrev pub unspanned : Forest → Forest
unspanned empty = empty
unspanned (tree f sp ps rest) = tree f no_span (unspanned ps) (unspanned rest)

-- Whether a tree is scoped does not depend on its spans.
abbrev pub Alike : Plain → Plain → Type 0
Alike t v = (t.form ≡ v.form) × (unspanned t.parts ≡ unspanned v.parts)

-- ---- translation units

-- items one after the other
abbrev pub Items : ℕ → List Shape → List Plain → Spot → Spot → Type 0
Items d w [] i j = i ≡ j
Items d w (t ∷ ts) i j = (m : Spot) × (Spells d w s.Item 0 t i m × Items d w ts m j)

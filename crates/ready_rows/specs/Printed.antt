-- Tokens that spell the tree that they are the tokens of.
use Rattle.std.specs.Prelude.{◌≡◌, ℕ, ◌+◌, true, List, [], ◌∷◌}
use Rattle.c_tokens.specs.declared.token.Shape.{Shape}
use Rattle.c_forms.specs.declared.pieces.Sort.TheVariants as s
use Rattle.c_forms.specs.Forests.{Plain}
use Rattle.c_forms.specs.Places.{stands}
use Rattle.c_reader.specs.States.{nothing_kept}
use Rattle.c_reader.specs.Tokens.{Spot, raw_at}
use Rattle.c_syntax.specs.Spells.{Spells}
use Rattle.c_trees.specs.Valid.{valid_tree}
use Rattle.c_trees.specs.Counts.{pure_tree}
use Rattle.scope_tables.specs.Frames.{Frame}
use Rattle.spelled_scopes.specs.Meant.{frames}
use Rattle.spelled_scopes.specs.Agreement.{Alike}

-- from one place to another stand these tokens
abbrev pub Run : List Shape → ℕ → List Shape → ℕ → Type 0
Run w p [] q = p ≡ q
Run w p (x ∷ xs) q = (raw_at w p ≡ x) × Run w (p + 1) xs q

-- an external declaration (ISO/IEC 9899:1990, 6.7) that is valid, and has neither placeholders nor calls of macros
pub record IsItem (t : Plain) : Type 0 where
  pub stands : stands t.form s.Item ≡ true
  pub valid : valid_tree t ≡ true
  pub pure : pure_tree t ≡ true

-- From a spot to a place the tokens spell an item that is equal to a tree but for its spans, and lead to these scopes. No
-- declaration is begun there, and what was put aside is as before.
pub record Respelled (d : ℕ) (w : List Shape) (t : Plain) (i : Spot) (end : ℕ) (fs : List Frame) : Type 0 where
  pub tree : Plain
  pub last : Spot
  pub alike : Alike t tree
  pub spelled : Spells d w s.Item 0 tree i last
  pub place : last.place ≡ end
  pub scopes : frames last.state.entries ≡ fs
  pub free : last.state.kept ≡ nothing_kept
  pub aside : last.state.aside ≡ i.state.aside

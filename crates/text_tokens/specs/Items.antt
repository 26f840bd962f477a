-- Items of plain C whose words, constants and literals are written.
use Rattle.std.specs.Prelude.{◌≡◌, ℕ, true, List, [], ◌∷◌}
use Rattle.c_forms.specs.declared.pieces.Sort.TheVariants.{Item}
use Rattle.c_forms.specs.Forests.{Plain}
use Rattle.c_forms.specs.Places.{stands}
use Rattle.c_trees.specs.Valid.{valid_tree}
use Rattle.c_trees.specs.Counts.{pure_tree}
use Rattle.text_tokens.specs.Written.{TreeIsWritten}

-- an external declaration (6.7) that is valid, has neither placeholders nor calls, and is written in a table of words
pub record IsWrittenItem (names : List (List ℕ)) (t : Plain) : Type 0 where
  pub item : stands t.form Item ≡ true
  pub valid : valid_tree t ≡ true
  pub pure : pure_tree t ≡ true
  pub written : TreeIsWritten names t

abbrev pub AreWrittenItems : List (List ℕ) → List Plain → Type 0
AreWrittenItems names [] = Unit {0}
AreWrittenItems names (t ∷ ts) = IsWrittenItem names t × AreWrittenItems names ts

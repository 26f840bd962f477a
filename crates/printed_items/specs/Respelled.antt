-- Tokens that spell the items that they are the tokens of, and nothing else.
use Rattle.std.specs.Prelude.{◌≡◌, ℕ, false, List, [], ◌∷◌}
use Rattle.c_tokens.specs.declared.token.Shape.{Shape}
use Rattle.c_forms.specs.Forests.{Plain}
use Rattle.c_reader.specs.States.{State, nothing_kept}
use Rattle.c_reader.specs.Tokens.{Spot}
use Rattle.scope_tables.specs.Frames.{Frame}
use Rattle.spelled_scopes.specs.Agreement.{Alike, Items}
use Rattle.spelled_scopes.specs.Meant.{frames}
use Rattle.ready_rows.specs.Printed.{IsItem}

-- what is known where a source begins: no word is declared
abbrev pub file_start : State
file_start = record { entries = []; is_late = false; kept = nothing_kept; aside = [] }

abbrev pub AreItems : List Plain → Type 0
AreItems [] = Unit {0}
AreItems (t ∷ ts) = IsItem t × AreItems ts

-- equal one by one but for their spans
abbrev pub AreAlike : List Plain → List Plain → Type 0
AreAlike [] [] = Unit {0}
AreAlike (t ∷ ts) (v ∷ vs) = Alike t v × AreAlike ts vs
AreAlike _ _ = ⊥

-- From a spot to a place the tokens spell items that are equal to these but for their spans, and lead to these scopes.
pub record AreRespelled (d : ℕ) (w : List Shape) (ts : List Plain) (i : Spot) (end : ℕ) (fs : List Frame) : Type 0 where
  pub trees : List Plain
  pub last : Spot
  pub alike : AreAlike ts trees
  pub spelled : Items d w trees i last
  pub place : last.place ≡ end
  pub scopes : frames last.state.entries ≡ fs
  pub free : last.state.kept ≡ nothing_kept
  pub aside : last.state.aside ≡ i.state.aside
  -- to that place they spell no other items, of whatever depth
  pub only : (e : ℕ) (us : List Plain) (j : Spot) → Items e w us i j → j.place ≡ end → (us ≡ trees) × (j ≡ last)

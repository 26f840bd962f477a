-- What the program keeps of names.
use Rattle.std.specs.Prelude.{◌≡◌, ℕ, true, List, [], ◌∷◌}
use Rattle.std.specs.List.{list_all}
use Rattle.c_tokens.specs.Spelling.{is_word}
use Rattle.fresh_names.specs.Names.{is_among, TakenBelow}

-- for each base the numbers below the one that is kept for it are taken
abbrev pub AllTakenBelow : {A : Type 0} → (A → List ℕ) → List (List ℕ) → List (A × ℕ) → Type 0
AllTakenBelow text_of texts [] = Unit {0}
AllTakenBelow text_of texts (entry ∷ others) = TakenBelow (text_of entry.0) texts entry.1 × AllTakenBelow text_of texts others

-- each fresh name is a word of the language, and is among the texts
abbrev pub AreKnown : List (List ℕ) → List (List ℕ) → Type 0
AreKnown fresh texts = (list_all is_word fresh ≡ true) × (list_all (λ name. is_among name texts) fresh ≡ true)

-- Valid trees: no node breaks a rule of its form.
use Rattle.std.specs.Prelude.{ℕ, zero, suc, Bool, true, false, ◌&&◌, List, [], ◌∷◌}
use Rattle.c_forms.specs.declared.pieces.Piece.{Piece}
use Rattle.c_forms.specs.declared.pieces.Piece.TheVariants.{Token, Maybe, Own, TypeTokens, KindName, One, Group, Rest, Anything, Then}
use Rattle.c_forms.specs.Forests.{Plain, Forest, empty, tree}
use Rattle.c_forms.specs.Rules.{is_right}

-- whether pieces ask for a number of trees, neither more nor fewer
abbrev pub asks_for : ℕ → List Piece → Bool
asks_for zero [] = true
asks_for (suc n) [] = false
asks_for n (Token c ∷ pieces) = asks_for n pieces
asks_for n (Maybe c ∷ pieces) = asks_for n pieces
asks_for n (Own ∷ pieces) = asks_for n pieces
asks_for n (TypeTokens ∷ pieces) = asks_for n pieces
asks_for n (KindName ∷ pieces) = asks_for n pieces
asks_for n (Then e ∷ pieces) = asks_for n pieces
asks_for zero (One due level ∷ pieces) = false
asks_for (suc n) (One due level ∷ pieces) = asks_for n pieces
asks_for zero (Group r due level ∷ pieces) = false
asks_for (suc n) (Group r due level ∷ pieces) = asks_for n pieces
asks_for n (Rest due ∷ pieces) = false
asks_for n (Anything ∷ pieces) = false

abbrev pub valid : Forest → Bool
valid empty = true
valid (tree f s ps rest) = is_right f ps && valid ps && valid rest

abbrev pub valid_tree : Plain → Bool
valid_tree t = is_right t.form t.parts && valid t.parts

-- Which types fit which.
use Rattle.std.specs.Prelude.{◌≡◌, Bool, true, false, ◌&&◌, ◌⊎◌, IsTrue, nat_eq}
use Rattle.c_tokens.specs.Kinds.{is_below}
use Rattle.c_tokens.specs.declared.kind.Base.{Base}
use Rattle.c_tokens.specs.declared.kind.Base.TheVariants.{Int, Text, Tree}
use Rattle.c_tokens.specs.declared.kind.MetaType.{MetaType}

-- both are trees, the first of a kind below that of the second
abbrev pub is_tree_below : Base → Base → Bool
is_tree_below (Tree a) (Tree b) = is_below a b
is_tree_below _ _ = false

-- equal types; or equal list levels, and trees of which the first is of a kind below that of the second
abbrev pub Fits : MetaType → MetaType → Type 0
Fits a b = (a ≡ b) ⊎ ((a.lists ≡ b.lists) × IsTrue (is_tree_below a.base b.base))

-- the same for bases alone, as a test
abbrev pub does_base_fit : Base → Base → Bool
does_base_fit Int Int = true
does_base_fit Text Text = true
does_base_fit a b = is_tree_below a b

-- the same as a test
unfoldable pub does_fit : MetaType → MetaType → Bool
does_fit a b = nat_eq a.lists b.lists && does_base_fit a.base b.base

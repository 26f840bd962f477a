-- Parts that are what the pieces of a row ask for.
use Rattle.std.specs.Prelude.{ℕ, Bool, true, false, not, ◌&&◌, ◌||◌, nat_lt, ◌+◌, if◌then◌else◌, List, [], ◌∷◌}
use Rattle.c_forms.specs.declared.pieces.Sort.{Sort}
use Rattle.c_forms.specs.declared.pieces.Sort.TheVariants as sort
use Rattle.c_forms.specs.declared.pieces.Repetition.{Repetition}
use Rattle.c_forms.specs.declared.pieces.Repetition.TheVariants.{Optional, Greedy, Due, All, Many, Spliced, Ended}
use Rattle.c_forms.specs.declared.pieces.Piece.{Piece}
use Rattle.c_forms.specs.declared.pieces.Piece.TheVariants.{Token, Maybe, Own, TypeTokens, KindName, One, Group, Rest, Anything, Then}
use Rattle.c_forms.specs.declared.forms.Form.{Form}
use Rattle.c_forms.specs.Forests.{Forest, empty, tree}
use Rattle.c_forms.specs.Places.{stands, joins}

-- how many trees stand side by side
abbrev pub number : Forest → ℕ
number empty = 0
number (tree f s ps rest) = number rest + 1

abbrev pub all_stand : Sort → Forest → Bool
all_stand due empty = true
all_stand due (tree f s ps rest) = stands f due && all_stand due rest

abbrev pub all_join : Sort → Forest → Bool
all_join due empty = true
all_join due (tree f s ps rest) = joins f due && all_join due rest

-- whether lists are spliced into it
abbrev pub is_spliced : Repetition → Bool
is_spliced (Spliced separator least) = true
is_spliced (Ended separator end_token) = true
is_spliced _ = false

-- the least number of elements, and whether one is the most
abbrev pub least_of : Repetition → ℕ
least_of All = 1
least_of (Many separator least) = least
least_of (Spliced separator least) = least
least_of (Ended separator end_token) = 1
least_of _ = 0

abbrev pub is_single : Repetition → Bool
is_single Optional = true
is_single Greedy = true
is_single Due = true
is_single _ = false

-- whether elements of a sort are as many as a repetition asks for, and each may be there
abbrev pub elements : Repetition → Sort → Forest → Bool
elements r due es = (if is_spliced r then all_join due es else all_stand due es) && nat_lt (least_of r) (number es + 1) && (not (is_single r) || nat_lt (number es) 2)

-- whether a part is the list of such elements
abbrev pub is_list_of : Repetition → Sort → Form → Forest → Bool
is_list_of r due f es = stands f sort.List && elements r due es

-- whether trees are what pieces ask for
abbrev pub fits : List Piece → Forest → Bool
fits [] empty = true
fits [] (tree f s ps rest) = false
fits (Token c ∷ pieces) ts = fits pieces ts
fits (Maybe c ∷ pieces) ts = fits pieces ts
fits (Own ∷ pieces) ts = fits pieces ts
fits (TypeTokens ∷ pieces) ts = fits pieces ts
fits (KindName ∷ pieces) ts = fits pieces ts
fits (Then e ∷ pieces) ts = fits pieces ts
fits (One due level ∷ pieces) empty = false
fits (One due level ∷ pieces) (tree f s ps rest) = stands f due && fits pieces rest
fits (Group r due level ∷ pieces) empty = false
fits (Group r due level ∷ pieces) (tree f s ps rest) = is_list_of r due f ps && fits pieces rest
fits (Rest due ∷ pieces) ts = all_stand due ts
fits (Anything ∷ pieces) ts = true

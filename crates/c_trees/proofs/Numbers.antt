-- How many trees stand side by side.
use Rattle.std.proofs.Common.{◌≡◌, ℕ, zero, suc, ◌&&◌, Bool, true, false, List, [], ◌∷◌, refl, length, arith, ap, add-one, sym, ◌∙◌, Option, Some, if◌then◌else◌}
use Rattle.c_forms.specs.declared.pieces.Piece.{Piece}
use Rattle.c_forms.specs.declared.pieces.Piece.TheVariants.{Token, Maybe, Own, TypeTokens, KindName, One, Group, Rest, Anything, Then}
use Rattle.c_forms.specs.declared.rules.Rule.{Rule}
use Rattle.c_forms.specs.declared.rules.Rule.TheVariants as rule
use Rattle.c_forms.specs.declared.forms.Form.{Form}
use Rattle.c_forms.specs.Forests.{Plain, Forest, empty, tree, forest}
use Rattle.c_forms.specs.Fits.{number, fits, is_list_of}
use Rattle.c_forms.specs.Measures.{pieces}
use Rattle.c_forms.specs.Places.{stands}
use Rattle.c_forms.specs.Rules.{is_nothing, is_right, among_rules}
use Rattle.c_trees.specs.Valid.{valid, valid_tree, asks_for}

pub number_length : (ts : List Plain) → number (forest ts) ≡ length ts
number_length [] = refl
number_length (t ∷ ts) = omega (arith, number_length ts)

first_true : (a b : Bool) → (a && b) ≡ true → a ≡ true
first_true true b h = refl
first_true false b h = cc

last_true : (a b : Bool) → (a && b) ≡ true → b ≡ true
last_true true b h = h
last_true false b h = cc

-- where pieces ask for a number of trees, so many fit them
fits_number : (all : List Piece) (n : ℕ) (ts : Forest) → asks_for n all ≡ true → fits all ts ≡ true → number ts ≡ n
fits_number [] zero empty a h = refl
fits_number [] zero (tree f s ps rest) a h = cc
fits_number [] (suc n) ts a h = cc
fits_number (Token c ∷ all) n ts a h = fits_number all n ts a h
fits_number (Maybe c ∷ all) n ts a h = fits_number all n ts a h
fits_number (Own ∷ all) n ts a h = fits_number all n ts a h
fits_number (TypeTokens ∷ all) n ts a h = fits_number all n ts a h
fits_number (KindName ∷ all) n ts a h = fits_number all n ts a h
fits_number (Then e ∷ all) n ts a h = fits_number all n ts a h
fits_number (One due level ∷ all) n empty a h = cc
fits_number (One due level ∷ all) zero (tree f s ps rest) a h = cc
fits_number (One due level ∷ all) (suc n) (tree f s ps rest) a h = add-one (number rest) ∙ ap suc (fits_number all n rest a (last_true (stands f due) (fits all rest) h))
fits_number (Group r due level ∷ all) n empty a h = cc
fits_number (Group r due level ∷ all) zero (tree f s ps rest) a h = cc
fits_number (Group r due level ∷ all) (suc n) (tree f s ps rest) a h = add-one (number rest) ∙ ap suc (fits_number all n rest a (last_true (is_list_of r due f ps) (fits all rest) h))
fits_number (Rest due ∷ all) n ts a h = cc
fits_number (Anything ∷ all) n ts a h = cc

unbroken : (b : Bool) (o : Option Rule) → is_nothing (if b then o else Some rule.Parts) ≡ true → b ≡ true
unbroken true o h = refl
unbroken false o h = cc

-- the parts of a node that breaks no rule fit its pieces
pub right_fits : (f : Form) (ps : Forest) → is_right f ps ≡ true → fits (pieces f) ps ≡ true
right_fits f ps h = unbroken (fits (pieces f) ps) (among_rules f ps) h

-- so many parts has a valid node whose form asks for a number of them
pub exact_number : (n : ℕ) (t : Plain) (ts : List Plain) → forest ts ≡ t.parts → asks_for n (pieces t.form) ≡ true → valid_tree t ≡ true → length ts ≡ n
exact_number n t ts e a v =
    sym (number_length ts)
    ∙ ap number e
    ∙ fits_number (pieces t.form) n t.parts a (right_fits t.form t.parts (first_true (is_right t.form t.parts) (valid t.parts) v))

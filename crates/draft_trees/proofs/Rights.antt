-- The parts of a draft of which a tree can be made.
use Rattle.std.specs.List.{All}
use Rattle.std.proofs.Common.{◌≡◌, ◌≤◌, refl, sym, subst, Bool, true, false, ◌&&◌, List, [], ◌∷◌, arith}
use Rattle.std.proofs.lemmas.List.Elements.{All-nil, All-cons}
use Rattle.c_forms.specs.Forests.{Plain, forest}
use Rattle.c_forms.specs.Rules.{is_right}
use Rattle.c_trees.specs.Counts.{high}
use Rattle.c_trees.specs.Valid.{valid, valid_tree}
use Rattle.draft_trees.specs.Right.{IsRight}

both : (a b : Bool) → (a && b) ≡ true → (a ≡ true) × (b ≡ true)
both true b h = (refl, h)
both false b h = absurd (cc h)

all_right : (ts : List Plain) → valid (forest ts) ≡ true → high (forest ts) ≤ 1000 → All IsRight ts
all_right [] v h = All-nil IsRight
all_right (t ∷ ts) v h = let k = both (valid_tree t) (valid (forest ts)) v in
    All-cons IsRight t ts (record { valid = k.0; low = omega (arith, h) }) (all_right ts k.1 (omega (arith, h)))

pub right_parts : (t : Plain) (ts : List Plain) → forest ts ≡ t.parts → IsRight t → All IsRight ts
right_parts t ts e r = all_right ts (subst (λ p. valid p ≡ true) (sym e) (both (is_right t.form t.parts) (valid t.parts) r.valid).1) (subst (λ p. high p ≤ 1000) (sym e) (omega (arith, r.low)))

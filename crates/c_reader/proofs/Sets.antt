-- Sets of classes: what is in them, in one within another, and in none that is apart.
use Rattle.std.proofs.Common.{◌≡◌, ◌⊎◌, inl, inr, refl, ap, sym, ◌∙◌, ℕ, not, Bool, true, false, ◌||◌, ◌&&◌, [], ◌∷◌, ◌++◌, nat_eq}
use Rattle.std.proofs.lemmas.Bool.{eqb-true, eq-eqb, or_left, or_right, or_parts, or_from, and_from}
use Rattle.c_forms.specs.Sets.{Classes, has, within, apart, given}

-- ---- tests

pub both : (a b : Bool) → (a && b) ≡ true → (a ≡ true) × (b ≡ true)
both true b h = (refl, h)
both false b h = absurd (cc h)

pub either : (a b : Bool) → (a || b) ≡ true → (a ≡ true) ⊎ (b ≡ true)
either true b h = inl refl
either false b h = inr h

pub not_true : (a : Bool) → not a ≡ true → a ≡ false
not_true true h = absurd (cc h)
not_true false h = refl

pub not_both : (a b : Bool) → a ≡ true → (a && b) ≡ false → b ≡ false
not_both true b h k = k
not_both false b h k = absurd (cc h)

pub contrary : {P : Type 0} (a : Bool) → a ≡ true → a ≡ false → P
contrary a h k = absurd (let e : true ≡ false = sym h ∙ k in cc e)

pub same_class : (a b : ℕ) → nat_eq a b ≡ true → a ≡ b
same_class a b h = eqb-true a b h

pub itself : (n : ℕ) → nat_eq n n ≡ true
itself n = eq-eqb n n refl

-- ---- sets

pub has_append : (a b : Classes) (c : ℕ) → has (a ++ b) c ≡ (has a c || has b c)
has_append [] b c = refl
has_append (x ∷ a) b c = by_head (nat_eq x c) (has_append a b c)
  where
    by_head : (e : Bool) → has (a ++ b) c ≡ (has a c || has b c) → (e || has (a ++ b) c) ≡ ((e || has a c) || has b c)
    by_head true h = refl
    by_head false h = h

pub has_left : (a b : Classes) (c : ℕ) → has a c ≡ true → has (a ++ b) c ≡ true
has_left a b c h = has_append a b c ∙ or_left (has a c) (has b c) h

pub has_right : (a b : Classes) (c : ℕ) → has b c ≡ true → has (a ++ b) c ≡ true
has_right a b c h = has_append a b c ∙ or_right (has a c) (has b c) h

pub has_either : (a b : Classes) (c : ℕ) → has (a ++ b) c ≡ true → (has a c ≡ true) ⊎ (has b c ≡ true)
has_either a b c h = either (has a c) (has b c) (sym (has_append a b c) ∙ h)

pub has_neither : (a b : Classes) (c : ℕ) → has (a ++ b) c ≡ false → (has a c ≡ false) × (has b c ≡ false)
has_neither a b c h = or_parts (has a c) (has b c) (sym (has_append a b c) ∙ h)

pub has_none : (a b : Classes) (c : ℕ) → has a c ≡ false → has b c ≡ false → has (a ++ b) c ≡ false
has_none a b c h k = has_append a b c ∙ or_from (has a c) (has b c) h k

pub single : (b c : ℕ) → c ≡ b → has (b ∷ []) c ≡ true
single b c e = rw e (or_left (nat_eq b b) false (itself b))

pub only_single : (b c : ℕ) → has (b ∷ []) c ≡ true → c ≡ b
only_single b c h = elim (either (nat_eq b c) false h) [
  | inl e ↦ sym (same_class b c e)
  | inr e ↦ absurd (cc e)
]

pub given_true : (b : Bool) (s : Classes) (c : ℕ) → has (given b s) c ≡ true → (b ≡ true) × (has s c ≡ true)
given_true true s c h = (refl, h)
given_true false s c h = absurd (cc h)

-- what is in the one set is in the other
pub within_has : (a b : Classes) (c : ℕ) → within a b ≡ true → has a c ≡ true → has b c ≡ true
within_has [] b c w h = absurd (cc h)
within_has (x ∷ a) b c w h = let k = both (has b x) (within a b) w in elim (either (nat_eq x c) (has a c) h) [
  | inl e ↦ ap (has b) (sym (same_class x c e)) ∙ k.0
  | inr e ↦ within_has a b c k.1 e
]

pub within_lacks : (a b : Classes) (c : ℕ) → within a b ≡ true → has b c ≡ false → has a c ≡ false
within_lacks a b c w h = by_test (has a c) refl
  where
    by_test : (e : Bool) → has a c ≡ e → has a c ≡ false
    by_test true e = contrary (has b c) (within_has a b c w e) h
    by_test false e = e

pub within_more : (a b c : Classes) → within a b ≡ true → within a (b ++ c) ≡ true
within_more [] b c w = refl
within_more (x ∷ a) b c w = let k = both (has b x) (within a b) w in and_from (has (b ++ c) x) (within a (b ++ c)) (has_left b c x k.0) (within_more a b c k.1)

pub within_before : (a b c : Classes) → within a c ≡ true → within a (b ++ c) ≡ true
within_before [] b c w = refl
within_before (x ∷ a) b c w = let k = both (has c x) (within a c) w in and_from (has (b ++ c) x) (within a (b ++ c)) (has_right b c x k.0) (within_before a b c k.1)

pub within_all : (a b c : Classes) → within a c ≡ true → within b c ≡ true → within (a ++ b) c ≡ true
within_all [] b c w u = u
within_all (x ∷ a) b c w u = let k = both (has c x) (within a c) w in and_from (has c x) (within (a ++ b) c) k.0 (within_all a b c k.1 u)

-- what is in the one set is not in the other
pub apart_has : (a b : Classes) (c : ℕ) → apart a b ≡ true → has a c ≡ true → has b c ≡ false
apart_has [] b c w h = absurd (cc h)
apart_has (x ∷ a) b c w h = let k = both (not (has b x)) (apart a b) w in elim (either (nat_eq x c) (has a c) h) [
  | inl e ↦ ap (has b) (sym (same_class x c e)) ∙ not_true (has b x) k.0
  | inr e ↦ apart_has a b c k.1 e
]

pub apart_other : (a b : Classes) (c : ℕ) → apart a b ≡ true → has b c ≡ true → has a c ≡ false
apart_other a b c w h = by_test (has a c) refl
  where
    by_test : (e : Bool) → has a c ≡ e → has a c ≡ false
    by_test true e = contrary (has b c) h (apart_has a b c w e)
    by_test false e = e

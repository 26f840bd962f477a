-- Sets of classes that are given by lists.
use Rattle.std.proofs.Common.{◌≡◌, ℕ, ◌+◌, ◌<◌, ◌⊎◌, inl, inr, refl, ap, ◌∙◌, Bool, true, false, ◌||◌, nat_lt, List, [], ◌∷◌, ◌++◌, length, take, get_or, arith, IsTrue}
use Rattle.std.specs.List.{list_all}
use Rattle.std.proofs.lemmas.List.{take_more}
use Rattle.std.proofs.lemmas.List.Folds.{list_all_at}
use Rattle.std.proofs.lemmas.Bool.Decides.{nat_tests}
use Rattle.c_tokens.specs.declared.class.Class.{Class}
use Rattle.c_tokens.specs.ClassNumbers.{class_number}
use Rattle.pattern_language.specs.Classes.{one_of, only, is_common}

pub or_assoc : (a b c : Bool) → (a || (b || c)) ≡ ((a || b) || c)
or_assoc true b c = refl
or_assoc false b c = refl

pub or_comm : (a b : Bool) → (a || b) ≡ (b || a)
or_comm true true = refl
or_comm true false = refl
or_comm false true = refl
or_comm false false = refl

pub or_false : (a : Bool) → (a || false) ≡ a
or_false true = refl
or_false false = refl

pub one_of-append : (xs ys : List Class) (c : Class) → one_of (xs ++ ys) c ≡ (one_of xs c || one_of ys c)
one_of-append [] ys c = refl
one_of-append (x ∷ xs) ys c = ap (λ b. only x c || b) (one_of-append xs ys c) ∙ or_assoc (only x c) (one_of xs c) (one_of ys c)

pub one_of_more : (xs : List Class) (i : ℕ) (d c : Class) → i < length xs → one_of (take (i + 1) xs) c ≡ (one_of (take i xs) c || only (get_or xs i d) c)
one_of_more xs i d c h = ap (λ ys. one_of ys c) (take_more xs i d h) ∙ one_of-append (take i xs) (get_or xs i d ∷ []) c ∙ ap (λ b. one_of (take i xs) c || b) (or_false (only (get_or xs i d) c))

true_or_false : (b : Bool) → (b ≡ true) ⊎ (b ≡ false)
true_or_false true = inl refl
true_or_false false = inr refl

below : (n : ℕ) → nat_lt n 128 ≡ true → n < 128
below n h = grind (arith, nat_tests)

pub common_at : (xs : List Class) (i : ℕ) (d : Class) → IsTrue (list_all is_common xs) → i < length xs → class_number (get_or xs i d) < 128
common_at xs i d all h = elim (true_or_false (is_common (get_or xs i d))) [
  | inl holds ↦ below (class_number (get_or xs i d)) holds
  | inr fails ↦ absurd (cc (all, list_all_at is_common xs i d h fails))
]

pub ruleset one_of_lists = (one_of-append, or_false, or_assoc)

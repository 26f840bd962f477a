-- Free numbers.
use Rattle.std.proofs.Common.{◌≡◌, refl, ap, sym, subst, ◌∙◌, ◌⊎◌, inl, inr, ℕ, zero, suc, ◌+◌, ◌^◌, ◌<◌, ◌≤◌, Bool, true, false, cond, ◌||◌, List, [], ◌∷◌, ◌++◌, length, bytes_eq, decimal, arith, below_more}
use Rattle.std.specs.Cmp.{IsEquivalence}
use Rattle.std.specs.List.{list_any, IsDistinct, AllByRecursion}
use Rattle.std.specs.Set.{is_member}
use Rattle.std.proofs.lemmas.Bool.{cases_lt, cases_eq}
use Rattle.std.proofs.lemmas.Slice.Eq.{bytes_eq-Decides}
use Rattle.std.proofs.lemmas.Fmt.{decimal_injective}
use Rattle.std.proofs.lemmas.Map.Made.{length-le_from_is_member}
use Rattle.c_tokens.proofs.Texts.{list_any-position, bytes_eq-refl}
use Rattle.fresh_names.specs.Names.{is_among, numbered, TakenBelow, IsLeastFree, free_from, least_free}

-- texts and tests

pub same_text : (a b : List ℕ) → bytes_eq a b ≡ true → a ≡ b
same_text a b e = (bytes_eq-Decides a b).0 e

false_from : (b : Bool) → (b ≡ true → ⊥) → b ≡ false
false_from true h = absurd (h refl)
false_from false h = refl

same_tests : (a b : Bool) → (a ≡ true → b ≡ true) → (b ≡ true → a ≡ true) → a ≡ b
same_tests true b h k = sym (h refl)
same_tests false true h k = k refl
same_tests false false h k = refl

or_true : (a b : Bool) → (a || b) ≡ true → (a ≡ true) ⊎ (b ≡ true)
or_true true b e = inl refl
or_true false b e = inr e

bytes_laws : IsEquivalence bytes_eq
bytes_laws = record {
  refl = bytes_eq-refl;
  symm = λ x y. same_tests (bytes_eq x y) (bytes_eq y x) (λ e. (bytes_eq-Decides y x).1 (sym (same_text x y e))) (λ e. (bytes_eq-Decides x y).1 (sym (same_text y x e)));
  congr = λ x y z e. ap (λ t. bytes_eq t z) (same_text x y e);
}

pub is_among-list_any : (text : List ℕ) (texts : List (List ℕ)) → is_among text texts ≡ list_any (bytes_eq text) texts
unfolding is_among
is_among-list_any text texts = sym (list_any-position (bytes_eq text) texts)

-- numbered texts differ

append-injective : (a b c : List ℕ) → a ++ b ≡ a ++ c → b ≡ c
append-injective [] b c e = e
append-injective (x ∷ a) b c e = append-injective a b c (let f : x ∷ (a ++ b) ≡ x ∷ (a ++ c) = e in cc)

tail_is : (x : ℕ) (b c : List ℕ) → x ∷ b ≡ x ∷ c → b ≡ c
tail_is x b c e = cc

numbered-injective : (base : List ℕ) (m n : ℕ) → m < 2 ^ 64 → n < 2 ^ 64 → numbered base m ≡ numbered base n → m ≡ n
unfolding numbered
numbered-injective base m n hm hn e = decimal_injective m n hm hn (tail_is 95 (decimal m) (decimal n) (append-injective base (95 ∷ decimal m) (95 ∷ decimal n) e))

-- texts of a base with the numbers below one
names_below : List ℕ → ℕ → List (List ℕ)
names_below base zero = []
names_below base (suc n) = numbered base n ∷ names_below base n

length-names_below : (base : List ℕ) (n : ℕ) → length (names_below base n) ≡ n
unfolding names_below
length-names_below base zero = refl
length-names_below base (suc n) = ap suc (length-names_below base n)

apart : (base : List ℕ) (m n : ℕ) → n < m → m < 2 ^ 64 → bytes_eq (numbered base m) (numbered base n) ≡ false
apart base m n less small =
    false_from (bytes_eq (numbered base m) (numbered base n)) (λ e. let same : m ≡ n = numbered-injective base m n small (omega arith) (same_text (numbered base m) (numbered base n) e) in omega arith)

apart_below : (base : List ℕ) (m n : ℕ) → n ≤ m → m < 2 ^ 64 → AllByRecursion (λ y. bytes_eq (numbered base m) y ≡ false) (names_below base n)
unfolding names_below
apart_below base m zero h small = tt
apart_below base m (suc n) h small = (apart base m n (omega arith) small, apart_below base m n (omega arith) small)

distinct : (base : List ℕ) (n : ℕ) → n ≤ 2 ^ 64 → IsDistinct bytes_eq (names_below base n)
unfolding IsDistinct names_below
distinct base zero h = tt
distinct base (suc n) h = (apart_below base n n (omega arith) (omega arith), distinct base n (omega arith))

member : (base : List ℕ) (texts : List (List ℕ)) (n : ℕ) → TakenBelow base texts n → (q : List ℕ) → is_member bytes_eq (names_below base n) q ≡ true → is_member bytes_eq texts q ≡ true
unfolding names_below
member base texts zero taken q e = absurd cc
member base texts (suc n) taken q e = elim (or_true (bytes_eq q (numbered base n)) (is_member bytes_eq (names_below base n) q) e) [
  | inl here ↦ subst (λ t. list_any (bytes_eq t) texts ≡ true) (sym (same_text q (numbered base n) here)) (sym (is_among-list_any (numbered base n) texts) ∙ taken n (omega arith))
  | inr there ↦ member base texts n (λ k less. taken k (omega arith)) q there
]

-- no more numbers are taken than there are texts
pub taken-at_most : (base : List ℕ) (texts : List (List ℕ)) (n : ℕ) → n ≤ 2 ^ 64 → TakenBelow base texts n → n ≤ length texts
taken-at_most base texts n small taken =
    subst (λ k. k ≤ length texts) (length-names_below base n) (length-le_from_is_member bytes_laws (names_below base n) texts (distinct base n small) (member base texts n taken))

pub taken_more : (base : List ℕ) (texts : List (List ℕ)) (n : ℕ) → TakenBelow base texts n → is_among (numbered base n) texts ≡ true → TakenBelow base texts (n + 1)
taken_more base texts n below here = below_more (λ k. is_among (numbered base k) texts ≡ true) n below here

-- one more number fits, where one is taken
pub taken-fits : (base : List ℕ) (texts : List (List ℕ)) (n : ℕ) → n < 2 ^ 32 → TakenBelow base texts n → is_among (numbered base n) texts ≡ true → n + 1 ≤ length texts
taken-fits base texts n small below here = taken-at_most base texts (n + 1) (omega arith) (taken_more base texts n below here)

-- the least number that is free

from_taken_by : (base : List ℕ) (texts : List (List ℕ)) (number j next : ℕ) (b : Bool) → is_among (numbered base number) texts ≡ b → number ≤ j → (number + 1 ≤ j → j < next → is_among (numbered base j) texts ≡ true)
    → j < cond b next number → is_among (numbered base j) texts ≡ true
from_taken_by base texts number j next true e h rest below = elim (cases_eq number j) [
  | inl same ↦ subst (λ k. is_among (numbered base k) texts ≡ true) same e
  | inr other ↦ rest (omega arith) below
]
from_taken_by base texts number j next false e h rest below = absurd (omega arith)

from_taken : (more : ℕ) (base : List ℕ) (texts : List (List ℕ)) (number j : ℕ) → number ≤ j → j < free_from more base texts number → is_among (numbered base j) texts ≡ true
unfolding free_from
from_taken zero base texts number j h less = absurd (omega arith)
from_taken (suc more) base texts number j h less = from_taken_by base texts number j (free_from more base texts (number + 1)) (is_among (numbered base number) texts) refl h (λ k below. from_taken more base texts (number + 1) j k below) less

FreeOrLast : List ℕ → List (List ℕ) → ℕ → ℕ → Type 0
FreeOrLast base texts number last = (is_among (numbered base number) texts ≡ false) ⊎ (number ≡ last)

from_next : (number more : ℕ) → number + 1 + more ≡ number + suc more
from_next number more = omega arith

from_free_by : (base : List ℕ) (texts : List (List ℕ)) (number next last : ℕ) (b : Bool) → is_among (numbered base number) texts ≡ b → FreeOrLast base texts next last → FreeOrLast base texts (cond b next number) last
unfolding FreeOrLast
from_free_by base texts number next last true e rest = rest
from_free_by base texts number next last false e rest = inl e

from_free : (more : ℕ) (base : List ℕ) (texts : List (List ℕ)) (number : ℕ) → FreeOrLast base texts (free_from more base texts number) (number + more)
unfolding free_from FreeOrLast
from_free zero base texts number = inr (omega arith)
from_free (suc more) base texts number =
    from_free_by base texts number (free_from more base texts (number + 1)) (number + suc more) (is_among (numbered base number) texts) refl
    (subst (FreeOrLast base texts (free_from more base texts (number + 1))) (from_next number more) (from_free more base texts (number + 1)))

least_free-below : (base : List ℕ) (texts : List (List ℕ)) → TakenBelow base texts (least_free base texts)
unfolding least_free
least_free-below base texts j less = from_taken (length texts) base texts 0 j (omega arith) less

least_free-free : (base : List ℕ) (texts : List (List ℕ)) → length texts < 2 ^ 32 → is_among (numbered base (least_free base texts)) texts ≡ false
unfolding least_free FreeOrLast
least_free-free base texts few = elim (from_free (length texts) base texts 0) [
  | inl free ↦ free
  | inr last ↦ false_from (is_among (numbered base (free_from (length texts) base texts 0)) texts)
      (λ taken. let r : ℕ = free_from (length texts) base texts 0 in
      let many : r + 1 ≤ length texts = taken-fits base texts r (omega (arith, last)) (λ j less. from_taken (length texts) base texts 0 j (omega arith) less) taken in
      omega (arith, last))
]

pub least_free_is : (base : List ℕ) (texts : List (List ℕ)) → length texts < 2 ^ 32 → IsLeastFree base texts (least_free base texts)
least_free_is base texts few = record { free = least_free-free base texts few; below = least_free-below base texts }

true_or_false : (b : Bool) → b ≡ true → b ≡ false → ⊥
true_or_false b e f = let both : true ≡ false = sym e ∙ f in cc

pub least-same : (base : List ℕ) (texts : List (List ℕ)) (m n : ℕ) → IsLeastFree base texts m → IsLeastFree base texts n → m ≡ n
least-same base texts m n h k = elim (cases_lt m n) [
  | inl less ↦ absurd (true_or_false (is_among (numbered base m) texts) (k.below m less) h.free)
  | inr some ↦ elim (cases_lt n m) [
    | inl less ↦ absurd (true_or_false (is_among (numbered base n) texts) (h.below n less) k.free)
    | inr others ↦ omega arith
  ]
]

from_at_most_by : (number next last : ℕ) (b : Bool) → number ≤ last → next ≤ last → cond b next number ≤ last
from_at_most_by number next last true h k = k
from_at_most_by number next last false h k = h

from_at_most : (more : ℕ) (base : List ℕ) (texts : List (List ℕ)) (number : ℕ) → free_from more base texts number ≤ number + more
unfolding free_from
from_at_most zero base texts number = omega arith
from_at_most (suc more) base texts number =
    from_at_most_by number (free_from more base texts (number + 1)) (number + suc more) (is_among (numbered base number) texts) (omega arith) (omega (arith, from_at_most more base texts (number + 1)))

pub least_free-at_most : (base : List ℕ) (texts : List (List ℕ)) → least_free base texts ≤ length texts
unfolding least_free
least_free-at_most base texts = omega (arith, from_at_most (length texts) base texts 0)

-- what was found is the fresh name
pub found_name : (base : List ℕ) (texts : List (List ℕ)) (n : ℕ) (text : List ℕ) → length texts < 2 ^ 32 → text ≡ numbered base n → IsLeastFree base texts n → text ≡ numbered base (least_free base texts)
found_name base texts n text few e h = e ∙ ap (numbered base) (least-same base texts n (least_free base texts) h (least_free_is base texts few))

pub found_small : (base : List ℕ) (texts : List (List ℕ)) (n : ℕ) → length texts < 2 ^ 32 → IsLeastFree base texts n → n < 2 ^ 64
found_small base texts n few h = let same : n ≡ least_free base texts = least-same base texts n (least_free base texts) h (least_free_is base texts few) in omega (arith, least_free-at_most base texts)

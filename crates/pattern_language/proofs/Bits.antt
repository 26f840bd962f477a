-- Sets of classes as bits.
use Rattle.std.proofs.Common.{◌≡◌, ◌≢◌, ℕ, zero, suc, ◌*◌, ◌%◌, ◌^◌, ◌<◌, ◌≤◌, refl, Bool, true, false, ◌||◌, nat_eq, bit_and, bit_or, inl, inr, arith, sym, ◌∙◌, subst, max, min}
use Rattle.std.specs.Int.{w128}
use Rattle.std.proofs.lemmas.Nat.{and_le_l}
use Rattle.std.specs.Int.{bit_at, trailing_zeros}
use Rattle.std.proofs.lemmas.Bool.Decides.{eqb_tells}
use Rattle.std.proofs.lemmas.Nat.Bits.{bit_at_or, bit_at_and, bit_at-lt, bit_at-zero, bit_at_above, bit_at_set_same, bit_at_set_other, bit_at-trailing_zeros}

has_bit : ℕ → ℕ → Bool
has_bit s n = nat_eq (bit_at s n) 1

either_bit : (x y : ℕ) → x < 2 → y < 2 → nat_eq (max x y) 1 ≡ (nat_eq x 1 || nat_eq y 1)
either_bit zero zero h k = refl
either_bit zero (suc zero) h k = refl
either_bit (suc zero) zero h k = refl
either_bit (suc zero) (suc zero) h k = refl
either_bit (suc (suc x)) y h k = absurd (omega arith)
either_bit zero (suc (suc y)) h k = absurd (omega arith)
either_bit (suc zero) (suc (suc y)) h k = absurd (omega arith)

pub bit_or_has : (a b n : ℕ) → nat_eq (bit_at (bit_or a b) n) 1 ≡ (nat_eq (bit_at a n) 1 || nat_eq (bit_at b n) 1)
bit_or_has a b n = rw (bit_at_or a b n) (either_bit (bit_at a n) (bit_at b n) (bit_at-lt a n) (bit_at-lt b n))

same_number : (n m : ℕ) → n ≡ m → nat_eq n m ≡ true
same_number n m e = grind (arith, eqb_tells n m)

other_number : (n m : ℕ) → n ≢ m → nat_eq n m ≡ false
other_number n m e = grind (arith, eqb_tells n m)

same_bit : (s n m : ℕ) → n < 128 → n ≡ m → nat_eq (bit_at (bit_or s (1 * 2 ^ n % 2 ^ 128)) m) 1 ≡ (nat_eq n m || nat_eq (bit_at s m) 1)
same_bit s n m h e = subst (λ m. nat_eq (bit_at (bit_or s (1 * 2 ^ n % 2 ^ 128)) m) 1 ≡ (nat_eq n m || nat_eq (bit_at s m) 1)) e
    (rw (bit_at_set_same w128 s n h, same_number n n refl) refl)

other_bit : (s n m : ℕ) → n < 128 → n ≢ m → nat_eq (bit_at (bit_or s (1 * 2 ^ n % 2 ^ 128)) m) 1 ≡ (nat_eq n m || nat_eq (bit_at s m) 1)
other_bit s n m h e = rw (bit_at_set_other w128 s n h m (λ k. e (sym k)), other_number n m e) refl

pub bit_set_has : (s n m : ℕ) → n < 128 → nat_eq (bit_at (bit_or s (1 * 2 ^ n % 2 ^ 128)) m) 1 ≡ (nat_eq n m || nat_eq (bit_at s m) 1)
bit_set_has s n m h = elim (eqb_tells n m) [ inl w ↦ same_bit s n m h w.1 | inr w ↦ other_bit s n m h w.1 ]

pub above : (s n : ℕ) → s < 2 ^ 128 → 128 ≤ n → nat_eq (bit_at s n) 1 ≡ false
above s n h k = rw (bit_at_above s 128 n h k) refl

is_one : (x : ℕ) → nat_eq x 1 ≡ true → x ≡ 1
is_one x h = grind (arith, eqb_tells x 1)

both_one : (x y : ℕ) → x < 2 → y < 2 → min x y ≡ 1 → (x ≡ 1) × (y ≡ 1)
both_one x y h k e = (omega arith, omega arith)

-- two numbers with a bit in common
pub common_bit : (a b : ℕ) → a < 2 ^ 128 → bit_and a b ≢ 0 → (n : ℕ) × (n < 128) × (nat_eq (bit_at a n) 1 ≡ true) × (nat_eq (bit_at b n) 1 ≡ true)
common_bit a b h apart =
    let low : bit_and a b < 2 ^ 128 = omega (arith, and_le_l a b) in
    let place : ℕ = trailing_zeros w128 (bit_and a b) in
    let lowest = bit_at-trailing_zeros w128 (bit_and a b) (omega (arith, apart)) low in
    let least : min (bit_at a place) (bit_at b place) ≡ 1 = sym (bit_at_and a b place) ∙ lowest.1 in
    let ones = both_one (bit_at a place) (bit_at b place) (bit_at-lt a place) (bit_at-lt b place) least in
    (place, lowest.0, same_number (bit_at a place) 1 ones.0, same_number (bit_at b place) 1 ones.1)

pub no_common_bit : (a b n : ℕ) → bit_and a b ≡ 0 → nat_eq (bit_at a n) 1 ≡ true → nat_eq (bit_at b n) 1 ≡ true → ⊥
no_common_bit a b n e h k =
    let low : bit_at (bit_and a b) n ≡ 0 = rw e (bit_at-zero n) in
    let least : min (bit_at a n) (bit_at b n) ≡ 0 = sym (bit_at_and a b n) ∙ low in
    let one : bit_at a n ≡ 1 = is_one (bit_at a n) h in
    let other : bit_at b n ≡ 1 = is_one (bit_at b n) k in
    omega arith

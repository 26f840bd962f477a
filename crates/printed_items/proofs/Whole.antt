-- What is ready is spelled, however high.
use Rattle.std.proofs.Common.{◌≡◌, ℕ, zero, suc, ◌+◌, ◌*◌, ◌≤◌, Bool, true, List, nat_eq, nat_lt, arith}
use Rattle.c_tokens.specs.declared.token.Shape.{Shape}
use Rattle.c_forms.specs.declared.pieces.Sort.{Sort}
use Rattle.c_forms.specs.Measures.{star}
use Rattle.c_syntax.specs.Allowed.{places}
use Rattle.c_syntax.specs.Spells.{Spelling, InPlace, Spells, nothing_spelled}
use Rattle.c_trees.specs.Counts.{high}
use Rattle.spelled_trees.proofs.Parts.{left_of}
use Rattle.spelled_trees.proofs.Scopes.{Scopes}
use Rattle.spelled_trees.proofs.ScopedTrees.{scoped_in_place, spelled_scoped}
use Rattle.spelled_trees.proofs.Trees.{nothing_telling, telling}
use Rattle.ready_rows.proofs.Rows.{Prints}
use Rattle.ready_rows.proofs.Standing.{Ready, Follows, Does}
use Rattle.scoped_spelled.proofs.Declarations.{opposed}
use Rattle.printed_items.proofs.Ranks.{rank, low, most}
use Rattle.printed_items.proofs.Wrapped.{PrintsStarred}
use Rattle.printed_items.proofs.Sorts.{at_tight, at_placed}

-- the tokens of what is ready and not too high spell it
abbrev pub Printing : List Shape → Spelling → (Sort → ℕ → Bool) → ℕ → Type 0
Printing w S lows k = Prints Ready Follows Does w S lows k

no_place : (r : ℕ) → nat_lt r 0 ≡ true → ⊥
no_place r e = grind arith

-- what is printed with a height is printed where less is known
lower : (w : List Shape) (S : Spelling) (lows : Sort → ℕ → Bool) (j k : ℕ) → j ≤ k → Printing w S lows k → Printing w S lows j
lower w S lows j k h P due least t i after m r F = P due least t i after m r (record { stands = F.stands; is_plain = F.is_plain; right = F.right; valid = F.valid; pure = F.pure; low = F.low; high = let g = F.high in omega (arith, g, h) })

module _ (levels : Type 0) (deeper : Spelling) (w : List Shape) (k : ℕ) (left : 1 ≤ k → levels) (scopes : (n : ℕ) → Scopes (InPlace n levels deeper w)) (D : (j : ℕ) → suc j ≤ k → Printing w deeper (low places) j) where
  -- what counts for the height is spelled in place without parentheses, if its parts are spelled one level deeper
  starred_in_place : (n : ℕ) → PrintsStarred w (InPlace n levels deeper w) (low n) k
  unfolding InPlace
  starred_in_place zero due least t i after m r s F l run next R O = absurd (no_place (rank due) (left_of (nat_lt (rank due) 0) (nat_lt least (most due)) F.low))
  starred_in_place (suc n) due least t i after m r s F l run next R O = at_tight levels deeper (InPlace n levels deeper w) w n k left (scopes (suc n)) D due least t i after m r (λ e. opposed s e) F l run next R O

  -- and everything, if what counts for the height is spelled one level deeper too
  in_place : PrintsStarred w deeper (low places) k → (n : ℕ) → Printing w (InPlace n levels deeper w) (low n) k
  unfolding InPlace
  in_place T zero due least t i after m r F run next R O = absurd (no_place (rank due) (left_of (nat_lt (rank due) 0) (nat_lt least (most due)) F.low))
  in_place T (suc n) due least t i after m r F run next R O = at_placed levels deeper (InPlace n levels deeper w) w n k left (scopes (suc n)) D T (in_place T n) due least t i after m r F run next R O

-- ---- each depth

none_low : (j : ℕ) → suc j ≤ 0 → ⊥
none_low j h = omega (arith, h)

none_starred : (a b : ℕ) → nat_eq a 1 ≡ true → a + b ≤ 0 → ⊥
none_starred a b e h = grind arith

less : (j k : ℕ) → suc j ≤ suc k → j ≤ k
less j k h = omega (arith, h)

half : (k d : ℕ) → 2 * suc k ≤ suc (suc d) → 2 * k ≤ d
half k d h = omega (arith, h)

none_left : (k : ℕ) → 2 * suc k ≤ 0 → ⊥
none_left k h = omega (arith, h)

one_left : (k : ℕ) → 2 * suc k ≤ suc zero → ⊥
one_left k h = omega (arith, h)

one_more : (k d : ℕ) → 2 * k ≤ d → 2 * k ≤ suc d
one_more k d h = omega (arith, h)

module _ (w : List Shape) where
  -- without height no parentheses are due
  flat : (S : Spelling) → PrintsStarred w S (low places) 0
  flat S due least t i after m r s F l run next R O = absurd (none_starred (star t.form) (high t.parts) s F.high)

  scopes_at : (d n : ℕ) → Scopes (InPlace n (Unit {0}) (Spells d w) w)
  scopes_at d n = scoped_in_place n (Unit {0}) (Spells d w) w (telling d w) (spelled_scoped d w)

  scopes_lowest : (n : ℕ) → Scopes (InPlace n ⊥ nothing_spelled w)
  scopes_lowest n = scoped_in_place n ⊥ nothing_spelled w (nothing_telling w) (λ due least t i j A p. absurd A)

  starred_once : (k d : ℕ) → Printing w (Spells d w) (low places) k → PrintsStarred w (Spells (suc d) w) (low places) (suc k)
  unfolding Spells
  starred_once k d P = starred_in_place (Unit {0}) (Spells d w) w (suc k) (λ l. tt) (scopes_at d) (λ j h. lower w (Spells d w) (low places) j k (less j k h) P) places

  -- The tokens of what is ready spell it, with twice as many levels as it is high.
  pub printed : (k d : ℕ) → 2 * k ≤ d → Printing w (Spells d w) (low places) k
  unfolding Spells
  printed zero zero h = in_place ⊥ nothing_spelled w 0 (λ l. absurd (none_low 0 l)) scopes_lowest (λ j l. absurd (none_low j l)) (flat nothing_spelled) places
  printed zero (suc d) h = in_place (Unit {0}) (Spells d w) w 0 (λ l. tt) (scopes_at d) (λ j l. absurd (none_low j l)) (flat (Spells d w)) places
  printed (suc k) zero h = absurd (none_left k h)
  printed (suc k) (suc zero) h = absurd (one_left k h)
  printed (suc k) (suc (suc d)) h =
      in_place (Unit {0}) (Spells (suc d) w) w (suc k) (λ l. tt) (scopes_at (suc d)) (λ j l. lower w (Spells (suc d) w) (low places) j k (less j k l) (printed k (suc d) (one_more k d (half k d h)))) (starred_once k d (printed k d (half k d h))) places

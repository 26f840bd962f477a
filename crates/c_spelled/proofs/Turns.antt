-- Turns of a loop, each of which goes on to a later token.
use Rattle.std.proofs.Common.{◌≡◌, refl, ap, ◌∙◌, ℕ, zero, suc, ◌+◌, ◌<◌, ◌≤◌, List, length, Ok, Err, arith}
use Rattle.c_tokens.specs.declared.token.Shape.{Shape}
use Rattle.c_reader.specs.Tokens.{Spot}
use Rattle.c_reader.specs.Readers.{Input, Outcome, Turn, More, Last, and_then, after, loop}
use Rattle.c_reader.proofs.Local.{from}
use Rattle.c_reader.specs.declared.refusal.Refusal.TheVariants.{TooDeep}

module _ {S A : Type 0} (w : List Shape) (turn : S → Input → Outcome (Turn S A)) where
  -- where turns are left for the rest of the tokens
  pub record Later (n : ℕ) (s : S) (i : Spot) (t : S) (j : Spot) : Type 0 where
    pub left : ℕ
    pub room : length w ≤ left + j.place
    pub same : loop n turn s (from w i) ≡ loop left turn t (from w j)

  abbrev pub Comes : S → Spot → S → Spot → Type 0
  Comes s i t j = (n : ℕ) → length w ≤ n + i.place → Later n s i t j

  pub stay : (s : S) (i : Spot) → Comes s i s i
  stay s i n r = record { left = n; room = r; same = refl }

  one_turn : (n : ℕ) (t : S) (j : Spot) (u : S) (k : Spot) → length w ≤ n + j.place → turn t (from w j) ≡ Ok (More u, from w k) → j.place < length w → j.place < k.place → Later n t j u k
  unfolding loop
  one_turn zero t j u k r e in_list on = absurd (omega (arith, r, in_list))
  one_turn (suc n) t j u k r e in_list on = record { left = n; room = omega (arith, r, on); same = ap (λ o. and_then o (after (loop n turn))) e }

  pub go : (s : S) (i : Spot) (t : S) (j : Spot) (u : S) (k : Spot) → Comes s i t j → turn t (from w j) ≡ Ok (More u, from w k) → j.place < length w → j.place < k.place → Comes s i u k
  go s i t j u k C e in_list on n r = let a = C n r in let b = one_turn a.left t j u k a.room e in_list on in record { left = b.left; room = b.room; same = a.same ∙ b.same }

  pub stop : (s : S) (i : Spot) (t : S) (j : Spot) (a : A) (k : Input) → Comes s i t j → turn t (from w j) ≡ Ok (Last a, k) → (n : ℕ) → length w ≤ n → loop n turn s (from w i) ≡ Ok (a, k)
  unfolding loop
  stop s i t j a k C e n r = let c = C n (omega (arith, r)) in c.same ∙ last_turn c.left t j a k e
    where
      last_turn : (n : ℕ) (t : S) (j : Spot) (a : A) (k : Input) → turn t (from w j) ≡ Ok (Last a, k) → loop n turn t (from w j) ≡ Ok (a, k)
      last_turn zero t j a k e = ap (λ o. and_then o (after (λ _ j. Err (TooDeep j.at.place)))) e
      last_turn (suc n) t j a k e = ap (λ o. and_then o (after (loop n turn))) e

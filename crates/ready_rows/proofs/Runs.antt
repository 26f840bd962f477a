-- Tokens from one place to another.
use Rattle.std.proofs.Common.{refl, sym, subst, ℕ, ◌+◌, List, [], ◌∷◌, ◌++◌}
use Rattle.c_tokens.specs.declared.token.Shape.{Shape}
use Rattle.ready_rows.specs.Printed.{Run}

-- tokens in two parts
pub record Cut (w : List Shape) (p : ℕ) (xs ys : List Shape) (q : ℕ) : Type 0 where
  pub middle : ℕ
  pub first : Run w p xs middle
  pub second : Run w middle ys q

pub cut : (w : List Shape) (p : ℕ) (xs ys : List Shape) (q : ℕ) → Run w p (xs ++ ys) q → Cut w p xs ys q
cut w p [] ys q r = record { middle = p; first = refl; second = r }
cut w p (x ∷ xs) ys q r = let c = cut w (p + 1) xs ys q r.1 in record { middle = c.middle; first = (r.0, c.first); second = c.second }

pub joined : (w : List Shape) (p m : ℕ) (xs ys : List Shape) (q : ℕ) → Run w p xs m → Run w m ys q → Run w p (xs ++ ys) q
joined w p m [] ys q r s = subst (λ p. Run w p ys q) (sym r) s
joined w p m (x ∷ xs) ys q r s = (r.0, joined w (p + 1) m xs ys q r.1 s)

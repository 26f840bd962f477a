-- Sets of classes.
use Rattle.std.specs.Prelude.{◌≡◌, ◌≢◌, ℕ, true, false}
use Rattle.std.proofs.Common.{arith}
use Rattle.c_forms.specs.Sets.{Classes, has}

pub has_not : (a : Classes) (b c : ℕ) → has a c ≡ true → has a b ≡ false → c ≢ b
has_not a b c e f h = grind (arith, e, f, h)

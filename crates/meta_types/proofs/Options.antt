-- Whether there is a value.
use Rattle.std.proofs.Common.{◌≡◌, refl, false, Option, Some, None, is_some}

pub none_from : {A : Type 0} (o : Option A) → is_some o ≡ false → o ≡ None
none_from None e = refl
none_from (Some a) e = absurd cc

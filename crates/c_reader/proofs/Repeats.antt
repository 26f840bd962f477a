-- A loop of a reader, turn by turn.
use Rattle.std.proofs.Common.{◌≡◌, ℕ, Ok, Err}
use Rattle.c_reader.specs.declared.refusal.Refusal.{Refusal}
use Rattle.c_reader.specs.Readers.{Input, Reader, Turn, More, Last, Body, Loop, read}
use Rattle.c_reader.proofs.Loops.{goes, ends, fails}
use Rattle.c_reader.proofs.Bounds.{Bounded}

module _ {A S : Type 0} (body : Body) (f : S → Reader (Turn S A)) (B : Bounded body f) (d : ℕ) (s : S) (i : Input) where
  pub goes_on : (t : S) (j : Input) → read body d (f s) i ≡ Ok (More t, j) → read body d (Loop f s) i ≡ read body d (Loop f t) j
  goes_on t j e = goes _ (B.left d) (B.shrinks d) _ _ s i t j (B.few d s i) (B.few d t j) e

  pub ends_with : (a : A) (j : Input) → read body d (f s) i ≡ Ok (Last a, j) → read body d (Loop f s) i ≡ Ok (a, j)
  ends_with a j e = ends _ (B.left d) (B.shrinks d) _ s i a j e

  pub fails_with : (x : Refusal) → read body d (f s) i ≡ Err x → read body d (Loop f s) i ≡ Err x
  fails_with x e = fails _ (B.left d) (B.shrinks d) _ s i x e

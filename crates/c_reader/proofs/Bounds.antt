-- Loops that end, and the readers all of whose loops do.
use Rattle.std.proofs.Common.{ℕ, ◌+◌, ◌≤◌, length}
use Rattle.c_reader.specs.States.{Seen}
use Rattle.c_reader.specs.Tokens.{Spot}
use Rattle.c_reader.specs.Readers.{Input, Reader, Turn, Body, Give, Refuse, Look, Next, Pick, Note, Bind, Fits, Call, Loop, Ask, Change, read}
use Rattle.c_reader.proofs.Loops.{Shrinks}

-- how many turns may be left, which is no more than the levels and the tokens together
pub record Bounded {A S : Type 0} (body : Body) (f : S → Reader (Turn S A)) : Type 0 where
  pub left : ℕ → S → Input → ℕ
  pub few : (d : ℕ) (s : S) (i : Input) → left d s i ≤ d + length i.tokens
  pub shrinks : (d : ℕ) → Shrinks (λ s i. read body d (f s) i) (left d)

module _ (body : Body) where
  abbrev pub Tame : {A : Type 0} → Reader A → Type 0
  Tame (Give a) = Unit {0}
  Tame Refuse = Unit {0}
  Tame (Look f) = (x : Seen) → Tame (f x)
  Tame (Next r) = Tame r
  Tame (Pick f) = Unit {0}
  Tame (Note f) = Unit {0}
  Tame (Bind {B = B} r f) = Tame r × ((b : B) → Tame (f b))
  Tame (Fits h r) = Tame r
  Tame (Call n) = Unit {0}
  Tame (Loop {S = S} f s) = Bounded body f × ((s : S) → Tame (f s))
  Tame (Ask f) = (i : Spot) → Tame (f i)
  Tame (Change e r) = Tame r

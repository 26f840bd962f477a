-- What the answers of a reader say of the tokens.
use Rattle.std.specs.Prelude.{◌≡◌, ◌≤◌, ◌<◌, ℕ, List, Ok}
use Rattle.c_tokens.specs.declared.token.Shape.{Shape}
use Rattle.c_reader.specs.Tokens.{Spot, Agree}
use Rattle.c_reader.specs.Readers.{Input, Reader, Body, read}

abbrev pub from : List Shape → Spot → Input
from w i = record { tokens = w; at = i }

-- with some number of levels that is allowed the tokens from this spot on are read
pub record IsRead {A : Type 0} (Allowed : ℕ → Type 0) (body : Body) (r : Reader A) (i : Spot) (w : List Shape) : Type 0 where
  pub levels : ℕ
  pub allowed : Allowed levels
  pub answer : A
  pub after : Spot
  pub reads : read body levels r (from w i) ≡ Ok (answer, from w after)

abbrev pub any_levels : ℕ → Type 0
any_levels d = Unit {0}

-- no tokens that are the same through this place are read
abbrev pub Dead : {A : Type 0} → (ℕ → Type 0) → Body → Reader A → Spot → List Shape → ℕ → Type 0
Dead Allowed body r i w k = (v : List Shape) → Agree k w v → IsRead Allowed body r i v → ⊥

-- some are
pub record Completion {A : Type 0} (body : Body) (r : Reader A) (i : Spot) (w : List Shape) (k : ℕ) : Type 0 where
  pub source : List Shape
  pub agrees : Agree k w source
  pub is_read : IsRead any_levels body r i source

-- this is the first place, from the spot on, that no tokens have that are read
abbrev pub IsFirstDead : {A : Type 0} → Body → Reader A → Spot → List Shape → ℕ → Type 0
IsFirstDead body r i w k = Dead any_levels body r i w k × ((p : ℕ) → i.place ≤ p → p < k → Completion body r i w p)

-- some tokens have it that are read, and all those need more levels than the limit
abbrev pub IsTooDeep : {A : Type 0} → ℕ → Body → Reader A → Spot → List Shape → ℕ → Type 0
IsTooDeep limit body r i w k = Dead (λ d. d ≤ limit) body r i w k × Completion body r i w k

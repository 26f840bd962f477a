-- How far a walk has come, and how it is taken back.
use Rattle.std.specs.Prelude.{◌≡◌, ℕ, zero, suc, ◌+◌, List, length, Result, OnOk, IfErr}
use Rattle.scopes.specs.declared.event.Event.{Event}
use Rattle.scopes.specs.declared.event.WalkStop.{WalkStop}
use Rattle.scope_tables.specs.Frames.{Frame, undone, steps_in}
use Rattle.scopes.specs.Settling.{Scoped, settled, Stops}

abbrev pub undone_by : ℕ → List Frame → List Frame
undone_by zero frames = frames
undone_by (suc count) frames = undone_by count (undone frames)

-- the older scopes come back when so many steps are taken back
pub record IsLater (old now : List Frame) : Type 0 where
  pub count : ℕ
  pub steps : steps_in now ≡ count + steps_in old
  pub back : undone_by count now ≡ old

-- a walk through events goes on from some scopes to others, or stops on the way there
pub record Goes (result : Result (Unit {0}) WalkStop) (events : List Event) (old now : List Frame) : Type 0 where
  pub ok : OnOk result (settled events old ≡ Scoped now)
  pub level : OnOk result (length now ≡ length old)
  pub stop : IfErr result (λ stop. Stops stop (settled events old))
  pub later : IsLater old now

-- a walk through all events has come to the others
pub record IsUnderWay (old now : List Frame) (all others : List Event) : Type 0 where
  pub same : settled others now ≡ settled all old
  pub level : length now ≡ length old
  pub later : IsLater old now

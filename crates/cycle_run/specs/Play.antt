-- Cycles that are played one after another, up to the last one or to where there is enough.
use Rattle.std.specs.Prelude.{ℕ, ◌<◌, ◌≤◌, Bool, true, List, take}
use Rattle.tester_types.specs.declared.cycle.Cycle.{Cycle}

-- so many of the cycles that are to come are played, and fewer than were asked for only where there is enough then
pub record PlaysUpTo {S : Type 0} (plays : List Cycle → S → S → Type 0) (done : S → Bool → Type 0) (coming : List Cycle)
    (most count : ℕ) (old new : S) : Type 0 where
  pub played : plays (take count coming) old new
  pub within : count ≤ most
  pub enough : count < most → done new true

-- A die whose drives are recorded; no public clause cites it.
use Rattle.std.specs.Prelude.{◌≡◌, ℕ, ◌+◌, ◌<◌, Bool, true, false, Option, Some}
use Rattle.die_sim.specs.Die.{Die}
use Rattle.die_sim.specs.Socket.{Calls, Told, holding}
use Rattle.vcd_dump.specs.Taken.{drives_in, most_drives}

-- the die, the calls so far, whether they have too many drives, and the count of faults
pub record Recording : Type 0 where
  pub die : Option Die
  pub calls : Calls
  pub over : Bool
  pub count : ℕ

-- what it tells as a socket
abbrev pub recording_told : Recording → Told
recording_told r = holding r.die (Some r.calls) r.count

-- there are too many drives, or so many are left
abbrev pub IsCounted : Bool → ℕ → Calls → Type 0
IsCounted true left calls = most_drives < drives_in calls
IsCounted false left calls = left + drives_in calls ≡ most_drives

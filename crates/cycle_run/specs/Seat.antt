-- One die at a socket: where its try stands, and what cycles that are played there change.
use Rattle.std.specs.Prelude.{◌≡◌, ℕ, ◌+◌, ◌*◌, ◌-◌, ◌^◌, ◌<◌, ◌≤◌, List, [], length}
use Rattle.tester_types.specs.declared.cycle.Cycle.{Cycle}
use Rattle.edge_gen.specs.Held.{Held}
use Rattle.die_sim.specs.Socket.{Told}
use Rattle.cycle_run.specs.declared.stop.Stop.{Stop}
use Rattle.strobe_check.specs.History.{HasSeen}
use Rattle.site_meaning.specs.Playing.{starting}
use Rattle.cycle_run.specs.Cycle.{Point, point_at, closed_with, IsBetween}
use Rattle.cycle_run.specs.Batch.{Between, between_at, going_in, PlaysCycles, StopsAmong}
use Rattle.cycle_run.specs.Step.{FitsBench, HoldsSchedules, HasCause}
use Rattle.cycle_run.specs.declared.setup.Setup.{Setup}
use Rattle.cycle_run.specs.declared.seat.Seat.{Seat}
use Rattle.cycle_run.specs.declared.seat.Standing.{Standing}
use Rattle.cycle_run.specs.Setup.{code_in, device_in, stand_in, HasEnough}
use Rattle.cycle_run.specs.Play.{PlaysUpTo}

-- ---- where a try stands

-- the point at which it stands, at a socket that tells this
abbrev pub point_of : Told → Standing → Point
point_of told at = point_at at.bench.checker at.bench.last.items told

-- it stands there between two cycles
abbrev pub between_of : Told → Standing → Between
between_of told at = between_at (point_of told at) at.time at.number

-- so many more cycles can be played
pub record CanPlay (setup : Setup) (more : ℕ) (schedules : Held) (told : Told) (at : Standing) : Type 0 where
  pub holds : HoldsSchedules (code_in setup) setup.skews.now schedules
  pub room : FitsBench (length setup.image.now.binds) at.bench.last.items at.bench.levels.items
  pub between : IsBetween (device_in setup) (point_of told at)
  pub early : at.time + 1000000000000 * more < 2 ^ 127
  pub few : at.number + more < 2 ^ 64

-- it stands before an executive, behind others without a fail, with a checker that keeps so many
pub record IsBefore (setup : Setup) (keep exec : ℕ) (schedules : Held) (told : Told) (at : Standing) : Type 0 where
  pub can : CanPlay setup (281474976710656 * (length (code_in setup).execs - exec)) schedules told at
  pub seen : HasSeen (closed_with (device_in setup) keep []) at.bench.checker

-- it stands before its first executive
pub record StartsSo (setup : Setup) (keep : ℕ) (schedules : Held) (told : Told) (at : Standing) : Type 0 where
  pub before : IsBefore setup keep 0 schedules told at
  pub going : going_in (between_of told at) ≡ starting (device_in setup)

-- ---- what cycles change

-- the schedules that are held stay right, the die stays loaded, and no fault is taken off the socket's count
pub record Keeps (setup : Setup) (schedules schedules' : Held) (told told' : Told) : Type 0 where
  pub holds : HoldsSchedules (code_in setup) setup.skews.now schedules
      → HoldsSchedules (code_in setup) setup.skews.now schedules'
  pub loaded : told'.loaded ≡ told.loaded
  pub count : told.count ≤ told'.count

-- so many of the cycles that are to come are played
abbrev pub PlaysSome : Setup → ℕ → List Cycle → ℕ → ℕ → Told → Told → Standing → Standing → Type 0
PlaysSome setup exec coming most count told told' old new =
    PlaysUpTo (PlaysCycles (stand_in setup) exec) (λ (b : Between). HasEnough setup.until b.point.held) coming most
    count (between_of told old) (between_of told' new)

-- one of these cycles stops, which has its cause
pub record StopsIn (setup : Setup) (exec : ℕ) (cycles : List Cycle) (told told' : Told) (old new : Standing)
    (why : Stop) : Type 0 where
  pub among : StopsAmong (stand_in setup) exec cycles (between_of told old) (between_of told' new) why
  pub cause : HasCause told.count told'.count why

-- ---- the same at a seat

-- so many more cycles can be played
abbrev pub CanPlayAt : {K : Type 0} → (K → Told) → Setup → ℕ → Seat K → Type 0
CanPlayAt told setup more seat = CanPlay setup more seat.schedules.now (told seat.socket.now) seat.at.now

-- it is the same seat
pub record IsSameSeat {K : Type 0} (told : K → Told) (setup : Setup) (old new : Seat K) : Type 0 where
  pub at : new.at.ghost_name ≡ old.at.ghost_name
  pub schedules : new.schedules.ghost_name ≡ old.schedules.ghost_name
  pub socket : new.socket.ghost_name ≡ old.socket.ghost_name
  pub keeps : Keeps setup old.schedules.now new.schedules.now (told old.socket.now) (told new.socket.now)

-- these cycles are played
pub record PlaysAt {K : Type 0} (told : K → Told) (setup : Setup) (exec : ℕ) (cycles : List Cycle) (old new : Seat K) :
    Type 0 where
  pub plays : PlaysCycles (stand_in setup) exec cycles (between_of (told old.socket.now) old.at.now)
      (between_of (told new.socket.now) new.at.now)
  pub same : IsSameSeat told setup old new

-- one of them stops
pub record StopsAt {K : Type 0} (told : K → Told) (setup : Setup) (exec : ℕ) (cycles : List Cycle) (old new : Seat K)
    (why : Stop) : Type 0 where
  pub stops : StopsIn setup exec cycles (told old.socket.now) (told new.socket.now) old.at.now new.at.now why
  pub same : IsSameSeat told setup old new

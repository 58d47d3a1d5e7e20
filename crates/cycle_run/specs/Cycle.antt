-- One cycle at a socket: what the checker has found and what the socket tells behind it, and where contact is lost.
use Rattle.std.specs.Prelude.{◌≡◌, ℕ, ℤ, true, Some, List, [], ◌∷◌, ◌++◌, length, ◌⊎◌}
use Rattle.tester_types.specs.declared.level.Drive.{Drive}
use Rattle.tester_types.specs.declared.cycle.Cycle.{Cycle}
use Rattle.tester_types.specs.declared.cycle.Moment.{Moment}
use Rattle.tester_types.specs.declared.record.Fail.{Fail}
use Rattle.packed_code.specs.Program.{Program}
use Rattle.die_sim.specs.Die.{Device, State, Settled}
use Rattle.die_sim.specs.Socket.{Told}
use Rattle.strobe_check.specs.History.{History, Held, HasSeen, all_fails}
use Rattle.site_meaning.specs.Playing.{Stand, Going, PlayedMoment, along_of, whose_next, bound_of, moments_in, after_moments, entries_in, played_moment, played_cycle, after_cycle}
use Rattle.cycle_run.specs.Tape.{calls_in, calls_of_cycle, with_calls}

-- where a try stands: what its checker holds, the last Down or Up of each signal, and what the socket tells
pub record Point : Type 0 where
  pub held : Held
  pub last : List Drive
  pub told : Told

-- the point of these
abbrev pub point_at : Held → List Drive → Told → Point
point_at held last told = record { held = held; last = last; told = told }

-- what goes along there, where the next cycle starts at this time and has this number
abbrev pub going_at : Point → ℕ → ℕ → Going
going_at point time number = record { die = point.told.state; priors = point.last; time = time; number = number }

-- what a try of this program runs on
abbrev pub stand_of : Program → List ℤ → Device → Stand
stand_of code skews device = record { code = code; skews = skews; device = device }

-- a state of the device: a level of each net is held, and all nets are settled
pub record IsStateOf (device : Device) (state : State) : Type 0 where
  pub size : length state.held ≡ length device.circuit.net.drivers
  pub settled : Settled device.circuit.net.drivers device.fixed state.held state.levels

-- all cycles so far are closed, and had these fails
abbrev pub closed_with : Device → ℕ → List Fail → History
closed_with device keep found = record { bound = bound_of device; keep = keep; closed = found; entries = [] }

-- no cycle is open: the device is loaded, and the checker has closed all cycles so far
pub record IsBetween (device : Device) (point : Point) : Type 0 where
  pub loaded : point.told.loaded ≡ Some device
  pub state : IsStateOf device point.told.state
  pub keep : ℕ
  pub found : List Fail
  pub seen : HasSeen (closed_with device keep found) point.held

-- a checker, which keeps so many fails, has found these, be their cycles closed or open
pub record HasFound (keep : ℕ) (found : List Fail) (held : Held) : Type 0 where
  pub history : History
  pub seen : HasSeen history held
  pub keeps : history.keep ≡ keep
  pub all : all_fails history ≡ found

-- the next cycle is played: the die and the last Down or Up of each signal are those behind it, its fails are found,
-- and a tape has its calls
pub record PlaysCycle (stand : Stand) (exec : ℕ) (going : Going) (cycle : Cycle) (old new : Point) : Type 0 where
  pub die : new.told.state ≡ (after_cycle stand going cycle).die
  pub priors : new.last ≡ (after_cycle stand going cycle).priors
  pub finds : (keep : ℕ) (found : List Fail) → HasSeen (closed_with stand.device keep found) old.held
      → HasSeen (closed_with stand.device keep (found ++ (played_cycle stand exec going cycle).fails)) new.held
  pub tape : new.told.tape ≡ with_calls old.told.tape (calls_of_cycle stand going cycle)

-- a moment of the next cycle as it is played, behind these of its moments
abbrev pub played_behind : Stand → ℕ → Going → Cycle → List Moment → Moment → PlayedMoment
played_behind stand exec going cycle done moment =
    played_moment stand.device (after_moments stand.device (along_of going) done)
    (entries_in stand.device (whose_next exec going cycle) (along_of going) done) moment

-- a moment of the next cycle, which makes a call at this instant
pub record IsCallAt (stand : Stand) (exec : ℕ) (going : Going) (cycle : Cycle) (instant : ℕ) : Type 0 where
  pub done : List Moment
  pub moment : Moment
  pub later : List Moment
  pub split : moments_in stand going.time cycle ≡ done ++ moment ∷ later
  pub then : moment.at ≡ instant
  pub earlier : List PlayedMoment
  pub rest : List PlayedMoment
  pub played : (played_cycle stand exec going cycle).moments
      ≡ earlier ++ played_behind stand exec going cycle done moment ∷ rest
  pub calls : (played_behind stand exec going cycle done moment).calls ≡ true

-- contact is lost in the next cycle, at this instant: at a moment that makes a call. The fails of earlier moments are
-- found, and a tape has the calls of the earlier moments, and perhaps that of the moment itself
pub record LosesContact (stand : Stand) (exec : ℕ) (going : Going) (cycle : Cycle) (old new : Point) (instant : ℕ) :
    Type 0 where
  pub at : IsCallAt stand exec going cycle instant
  pub finds : (keep : ℕ) (found : List Fail) → HasSeen (closed_with stand.device keep found) old.held
      → HasFound keep (found ++ (played_behind stand exec going cycle at.done at.moment).earlier) new.held
  pub tape : (new.told.tape ≡ with_calls old.told.tape (calls_in stand.device (along_of going) at.done))
      ⊎ (new.told.tape ≡ with_calls old.told.tape (calls_in stand.device (along_of going) (at.done ++ at.moment ∷ [])))

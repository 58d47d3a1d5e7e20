-- Cycles of an executive one after another at a socket: what has been found and what the socket tells behind them, and
-- where contact is lost.
use Rattle.std.specs.Prelude.{◌≡◌, ℕ, List, [], ◌∷◌, ◌++◌}
use Rattle.tester_types.specs.declared.cycle.Cycle.{Cycle}
use Rattle.tester_types.specs.declared.record.Fail.{Fail}
use Rattle.die_sim.specs.Socket.{Calls}
use Rattle.strobe_check.specs.History.{HasSeen}
use Rattle.cycle_run.specs.declared.stop.Stop.{Stop}
use Rattle.cycle_run.specs.declared.stop.Stop.TheVariants as stop
use Rattle.site_meaning.specs.Playing.{Stand, Going, after_cycle}
use Rattle.site_meaning.specs.Trials.{played, after_cycles, fails_in}
use Rattle.cycle_run.specs.Tape.{calls_of_cycle, with_calls}
use Rattle.cycle_run.specs.Cycle.{Point, going_at, closed_with, LosesContact}

-- the drive calls of cycles, one cycle after another
unfoldable pub calls_of_cycles : Stand → Going → List Cycle → Calls
calls_of_cycles stand going [] = []
calls_of_cycles stand going (cycle ∷ cycles) =
    calls_of_cycle stand going cycle ++ calls_of_cycles stand (after_cycle stand going cycle) cycles

-- where a try stands between two cycles, with the start and the number of the next
pub record Between : Type 0 where
  pub point : Point
  pub time : ℕ
  pub number : ℕ

-- it is at this point, and the next cycle starts at this time and has this number
abbrev pub between_at : Point → ℕ → ℕ → Between
between_at point time number = record { point = point; time = time; number = number }

-- what goes along there
abbrev pub going_in : Between → Going
going_in between = going_at between.point between.time between.number

-- these cycles are played: what goes along is what does behind them, their fails are found, and a tape has their calls
pub record PlaysCycles (stand : Stand) (exec : ℕ) (cycles : List Cycle) (old new : Between) : Type 0 where
  pub going : going_in new ≡ after_cycles stand (going_in old) cycles
  pub finds : (keep : ℕ) (found : List Fail) → HasSeen (closed_with stand.device keep found) old.point.held
      → HasSeen (closed_with stand.device keep (found ++ fails_in (played stand exec (going_in old) cycles)))
      new.point.held
  pub tape : new.point.told.tape ≡ with_calls old.point.told.tape (calls_of_cycles stand (going_in old) cycles)

-- Contact is lost in one of these cycles, at this instant: those before it are played, and count as finished.
pub record LosesContactIn (stand : Stand) (exec : ℕ) (cycles : List Cycle) (old new : Between) (instant : ℕ) : Type 0
  where
    pub done : List Cycle
    pub cycle : Cycle
    pub later : List Cycle
    pub split : cycles ≡ done ++ cycle ∷ later
    pub mid : Between
    pub plays : PlaysCycles stand exec done old mid
    pub loses : LosesContact stand exec (going_in mid) cycle mid.point new.point instant
    pub number : new.number ≡ mid.number

-- they stop in one of these cycles
abbrev pub StopsAmong : Stand → ℕ → List Cycle → Between → Between → Stop → Type 0
StopsAmong stand exec cycles old new stop.NoMemory = Unit {0}
StopsAmong stand exec cycles old new (stop.Contact instant) = LosesContactIn stand exec cycles old new instant

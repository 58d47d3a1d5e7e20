-- A site as a poll sees it, at a socket that tells the state of the die.
use Rattle.std.specs.Prelude.{◌≡◌, ℕ, ◌+◌, ◌*◌, ◌<◌, ◌≤◌, Option, Some, None, IfSome, List, [], take, drop, length}
use Rattle.tester_types.specs.declared.record.Verdict.{Verdict}
use Rattle.tester_types.specs.declared.record.Verdict.TheVariants as verdict
use Rattle.tester_types.specs.declared.record.Fail.{Fail}
use Rattle.tester_types.specs.declared.record.Trial.{Trial}
use Rattle.packed_code.specs.Program.{Program}
use Rattle.packed_code.specs.Cycles.{cycles_of}
use Rattle.pattern_mem.specs.Cursor.{cycles_to_come, IsCursorOf}
use Rattle.die_sim.specs.Die.{Device}
use Rattle.die_sim.specs.Socket.{Told}
use Rattle.strobe_check.specs.History.{History, Held, HasSeen}
use Rattle.site_meaning.specs.Playing.{Stand}
use Rattle.site_meaning.specs.Part.{Part, lot_in, stand_for}
use Rattle.site_meaning.specs.Polls.{Running, Step, goes, ends, ended_now}
use Rattle.site_run.specs.declared.run.Run.{Run}
use Rattle.site_run.specs.declared.run.Move.{Move}
use Rattle.site_run.specs.declared.run.Move.TheVariants as move
use Rattle.site_run.specs.declared.arrival.Arrival.{Arrival}
use Rattle.site_run.specs.declared.arrival.Arrival.TheVariants as arrival
use Rattle.cycle_run.specs.Cycle.{closed_with, IsStateOf}
use Rattle.cycle_run.specs.declared.stop.Stop.{Stop}
use Rattle.cycle_run.specs.Batch.{PlaysCycles, StopsAmong}
use Rattle.cycle_run.specs.Step.{FitsBench, HasCause}
use Rattle.cycle_run.specs.Seat.{between_of}
use Rattle.site_run.specs.declared.station.Ground.{Ground}
use Rattle.site_run.specs.Station.{code_in, device_in, stand_in}

-- ---- a try that runs

-- as a poll sees it: the die's state is the one that the socket tells
abbrev pub running_of : Told → Run → Running
running_of told run = record {
  exec = run.exec;
  done = run.done;
  batch = run.batch;
  going = record { die = told.state; priors = run.at.bench.last.items; time = run.at.time; number = run.at.number };
  total = run.at.bench.checker.count.total;
  kept = run.at.bench.checker.count.kept;
}

-- what is so of a try that runs on this program and this die: its cursor gives the cycles of its executive that haven't
-- run, its checker has closed all cycles so far, and its numbers are small enough to go on
pub record IsRunOn (code : Program) (device : Device) (told : Told) (run : Run) : Type 0 where
  pub exec : run.exec < length code.execs
  pub cursor : IsCursorOf code run.cursor
  pub coming : cycles_to_come code run.cursor ≡ drop run.done (cycles_of code run.exec)
  pub room : FitsBench (length device.binds) run.at.bench.last.items run.at.bench.levels.items
  pub loaded : told.loaded ≡ Some device
  pub state : IsStateOf device told.state
  pub keep : ℕ
  pub found : List Fail
  pub seen : HasSeen (closed_with device keep found) run.at.bench.checker
  pub done : run.done ≤ length (cycles_of code run.exec)
  pub number : run.at.number ≤ 281474976710656 * run.exec + run.done
  pub time : run.at.time ≤ 1000000000000 * run.at.number
  pub batch : run.batch ≤ run.at.number

-- a batch of so many cycles is played: the try stands later, behind them, and can be run again
pub record PlaysBatch (ground : Ground) (cycles : ℕ) (told told' : Told) (old new : Run) : Type 0 where
  pub plays : PlaysCycles (stand_in ground) old.exec (take cycles (cycles_to_come (code_in ground) old.cursor))
      (between_of told old.at) (between_of told' new.at)
  pub runs : IsRunOn (code_in ground) (device_in ground) told' new
  pub exec : new.exec ≡ old.exec
  pub done : new.done ≡ old.done + cycles
  pub batch : new.batch ≡ old.batch + 1
  pub later : old.at.time < new.at.time

-- it stops in one of its cycles, which has its cause
pub record StopsBatch (ground : Ground) (cycles : ℕ) (told told' : Told) (old new : Run) (why : Stop) : Type 0 where
  pub among : StopsAmong (stand_in ground) old.exec (take cycles (cycles_to_come (code_in ground) old.cursor))
      (between_of told old.at) (between_of told' new.at) why
  pub cause : HasCause told.count told'.count why

-- what is so of it where it comes to the executives from this one on
pub record IsBefore (device : Device) (told : Told) (run : Run) (from : ℕ) : Type 0 where
  pub room : FitsBench (length device.binds) run.at.bench.last.items run.at.bench.levels.items
  pub loaded : told.loaded ≡ Some device
  pub state : IsStateOf device told.state
  pub keep : ℕ
  pub found : List Fail
  pub seen : HasSeen (closed_with device keep found) run.at.bench.checker
  pub number : run.at.number ≤ 281474976710656 * from
  pub time : run.at.time ≤ 1000000000000 * run.at.number
  pub batch : run.batch ≤ run.at.number

-- a checker has seen something
abbrev pub IsSeen : Held → Type 0
IsSeen held = (history : History) × HasSeen history held

-- what a plan says of a try that runs so: the program, the die and the skews, the cycles of a batch, and how many
-- fails are kept
pub record IsPlanned (part : Part) (die number : ℕ) (stand : Stand) (most keep : ℕ) : Type 0 where
  pub code : part.code ≡ stand.code
  pub stand_is : stand_for part die number ≡ stand
  pub most_is : (lot_in part).batch ≡ most
  pub keep_is : (lot_in part).keep ≡ keep

-- ---- what comes of it

-- a poll's step is this move of the code
abbrev pub IsMove : ℕ → Told → Run → Move → Step → Type 0
IsMove number told run move.More step = step ≡ goes (running_of told run)
IsMove number told run move.Next step = step ≡ goes (running_of told run)
IsMove number told run (move.Ends verdict) step = step ≡ ends (ended_now number (running_of told run) verdict)

-- the instant at which a verdict tells that contact was lost, if it does
abbrev pub contact_by : Verdict → Option ℕ
contact_by verdict.Pass = None
contact_by (verdict.Fail exec) = None
contact_by (verdict.Stopped batch by) = None
contact_by (verdict.Contact at) = Some at

-- the instant at which a move lost contact, if it did
abbrev pub contact_of : Move → Option ℕ
contact_of move.More = None
contact_of move.Next = None
contact_of (move.Ends verdict) = contact_by verdict

-- a try that goes on can be run again
abbrev pub GoesOnSo : Program → Device → Told → Run → Move → Type 0
GoesOnSo code device told run move.More =
    IsRunOn code device told run × (run.done < length (cycles_of code run.exec))
GoesOnSo code device told run move.Next =
    IsRunOn code device told run × (run.done < length (cycles_of code run.exec))
GoesOnSo code device told run (move.Ends verdict) = Unit {0}

-- the next batch wasn't run: a try that goes on stands at the same time
abbrev pub KeepsTime : Run → Run → Move → Type 0
KeepsTime old new move.More = (new.at.time ≡ old.at.time) × (new.done ≡ old.done)
KeepsTime old new move.Next = (new.at.time ≡ old.at.time) × (new.done ≡ 0)
KeepsTime old new (move.Ends verdict) = contact_by verdict ≡ None

-- the next batch was run: a try that goes on stands later, behind cycles of the same executive or before another one,
-- and contact is lost no earlier than the batch begins
abbrev pub StandsLater : Run → Run → Move → Type 0
StandsLater old new move.More = (old.at.time < new.at.time) × (0 < new.done)
StandsLater old new move.Next = (old.at.time < new.at.time) × (new.done ≡ 0)
StandsLater old new (move.Ends verdict) = IfSome (contact_by verdict) (λ at. old.at.time ≤ at)

-- what is so of a try that made this move: it can be run again where it goes on, and later than before, and its checker
-- keeps as many fails
pub record HasMoved (code : Program) (device : Device) (told : Told) (old new : Run) (made : Move) : Type 0 where
  pub fits : GoesOnSo code device told new made
  pub seen : IsSeen new.at.bench.checker
  pub keep : new.at.bench.checker.count.keep ≡ old.at.bench.checker.count.keep
  pub later : StandsLater old new made

-- ---- a try from its load up to its first batch

-- a try that has no cycle
abbrev pub without_cycles : ℕ → Verdict → Trial
without_cycles number verdict = record { number = number; cycles = 0; fails = 0; kept = []; verdict = verdict }

-- a poll's step is this arrival of the code
abbrev pub IsArrival : ℕ → Told → Arrival → Step → Type 0
IsArrival number told (arrival.Goes run) step = step ≡ goes (running_of told run)
IsArrival number told (arrival.Ends verdict) step = step ≡ ends (without_cycles number verdict)

-- a try that has arrived can be run, and nothing of it has been
abbrev pub ArrivesSo : Program → Device → Told → Arrival → Type 0
ArrivesSo code device told (arrival.Goes run) =
    IsRunOn code device told run × (run.done < length (cycles_of code run.exec)) × (run.at.time ≡ 0)
ArrivesSo code device told (arrival.Ends verdict) = Unit {0}

-- a load that failed lost contact at the instant 0
abbrev pub load_contact : Arrival → Option ℕ
load_contact (arrival.Goes run) = None
load_contact (arrival.Ends verdict) = contact_by verdict

-- where the load failed, that is what it comes to
abbrev pub FailsToLoad : Arrival → Type 0
FailsToLoad (arrival.Goes run) = Unit {0}
FailsToLoad (arrival.Ends end) = IfSome (contact_by end) (λ at. end ≡ verdict.Contact 0)

-- a try that has arrived keeps so many fails
abbrev pub KeepsSo : ℕ → Arrival → Type 0
KeepsSo keep (arrival.Goes run) = run.at.bench.checker.count.keep ≡ keep
KeepsSo keep (arrival.Ends end) = Unit {0}

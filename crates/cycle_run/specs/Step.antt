-- What the parts of the code keep and compute. No public clause cites it.
use Rattle.std.specs.Prelude.{◌≡◌, ℕ, ◌^◌, ◌<◌, true, List, [], ◌∷◌, ◌++◌, All, length, Option, Some, None, ℤ, slice_get, slice_index_or, ◌⊎◌, Result, Ok, Err}
use Rattle.std.specs.List.{AllByRecursion}
use Rattle.tester_types.specs.Outside.{HasRisen}
use Rattle.tester_types.specs.declared.level.Drive.{Drive}
use Rattle.tester_types.specs.declared.level.Level.{Level}
use Rattle.tester_types.specs.declared.level.Level.TheVariants.{X}
use Rattle.tester_types.specs.declared.cycle.Moment.{Moment}
use Rattle.tester_types.specs.declared.cycle.Cycle.{Cycle}
use Rattle.die_sim.specs.Die.{Device, State, Settled}
use Rattle.die_sim.specs.Socket.{Told, Shows}
use Rattle.strobe_check.specs.Entry.{Entry}
use Rattle.strobe_check.specs.Sensed.{is_sensed}
use Rattle.strobe_check.specs.Fails.{fails}
use Rattle.tester_types.specs.declared.record.Fail.{Fail}
use Rattle.packed_code.specs.Conditions.{characters_of}
use Rattle.edge_gen.specs.Moments.{moments_of}
use Rattle.edge_gen.specs.Held as schedules
use Rattle.std.specs.Option.{option_map_or}
use Rattle.strobe_check.specs.History.{History, Held, HasSeen}
use Rattle.packed_code.specs.Program.{Program}
use Rattle.edge_gen.specs.Signals.{keeps_inside}
use Rattle.site_meaning.specs.Playing.{Stand, Along, Whose, Going, bound_of, after_moments, entries_in, makes_call}
use Rattle.cycle_run.specs.declared.stop.Stop.{Stop}
use Rattle.cycle_run.specs.declared.stop.Stop.TheVariants as stop
use Rattle.cycle_run.specs.declared.place.Place.{Place}
use Rattle.cycle_run.specs.Tape.{calls_in, with_calls}
use Rattle.cycle_run.specs.Cycle.{Point, IsStateOf, closed_with, LosesContact}

-- ---- what is handed in

-- the drives of signals, which rise strictly
abbrev pub Rises : {A : Type 0} → List (ℕ × A) → Type 0
Rises [] = Unit {0}
Rises (given ∷ later) = AllByRecursion (λ next. given.0 < next.0) later × Rises later

-- a moment of so many signals: those of its drives rise and are among them
pub record IsMomentOf (signals : ℕ) (moment : Moment) : Type 0 where
  pub rising : Rises moment.drives
  pub below : All (λ given. given.0 < signals) moment.drives

-- a moment of a schedule, which is dated from 0
pub record IsScheduled (signals : ℕ) (moment : Moment) : Type 0 where
  pub of : IsMomentOf signals moment
  pub early : moment.at < 2 ^ 64

-- each signal has a skew, and each event of the waveforms of each table, moved by it, stays inside the cycle
pub record FitCode (code : Program) (skews : List ℤ) : Type 0 where
  pub one_each : length skews ≡ length code.signals
  pub inside : All (λ table. keeps_inside table skews ≡ true) code.tables

-- there is room for what is remembered of each signal, and for its level
pub record FitsBench (signals : ℕ) (last : List Drive) (levels : List Level) : Type 0 where
  pub last_count : length last ≡ signals
  pub levels_count : length levels ≡ signals

-- the moments, dated from 0, of the cycles with a table and a row of these numbers
abbrev pub schedule_of : Program → List ℤ → ℕ × ℕ → List Moment
schedule_of code skews pair =
    option_map_or (λ table. moments_of table (characters_of code.rows pair.1) skews 0) (slice_get code.tables pair.0) []

-- each schedule that is held is that of its numbers
abbrev pub HoldsSchedules : Program → List ℤ → schedules.Held → Type 0
HoldsSchedules code skews held = AllByRecursion (λ entry. entry.1 ≡ schedule_of code skews entry.0) held.entries

-- whose the moments of a place are
abbrev pub whose_at : Place → Whose
whose_at place = record { exec = place.exec; cycle = place.number; mark = place.cycle.mark }

-- ---- what is known of checker, drives and socket on the way

-- what goes along from moment to moment
abbrev pub along_at : Point → Along
along_at point = record { die = point.told.state; priors = point.last }

-- the loaded die is this one, and so is that of the checker, whatever it has seen
pub record IsReady (device : Device) (point : Point) : Type 0 where
  pub loaded : point.told.loaded ≡ Some device
  pub state : IsStateOf device point.told.state
  pub history : History
  pub seen : HasSeen history point.held
  pub bound : history.bound ≡ bound_of device

-- the open cycle has more entries
abbrev pub with_entries : History → List Entry → History
with_entries history entries = record history { entries = history.entries ++ entries }

-- checker, drives and socket go through moments of the open cycle
pub record GoesThrough (device : Device) (whose : Whose) (moments : List Moment) (old new : Point) : Type 0 where
  pub die : new.told.state ≡ (after_moments device (along_at old) moments).die
  pub priors : new.last ≡ (after_moments device (along_at old) moments).priors
  pub sees : (history : History) → history.bound ≡ bound_of device → HasSeen history old.held
      → HasSeen (with_entries history (entries_in device whose (along_at old) moments)) new.held
  pub tape : new.told.tape ≡ with_calls old.told.tape (calls_in device (along_at old) moments)

-- they go through the moments of a cycle, which is closed then
pub record Closes (device : Device) (whose : Whose) (moments : List Moment) (old new : Point) : Type 0 where
  pub die : new.told.state ≡ (after_moments device (along_at old) moments).die
  pub priors : new.last ≡ (after_moments device (along_at old) moments).priors
  pub finds : (keep : ℕ) (found : List Fail) → HasSeen (closed_with device keep found) old.held
      → HasSeen (closed_with device keep
      (found ++ fails (bound_of device) (entries_in device whose (along_at old) moments))) new.held
  pub tape : new.told.tape ≡ with_calls old.told.tape (calls_in device (along_at old) moments)

-- behind moments of the open cycle one more makes a call
abbrev pub CallsBehind : Device → Whose → List Moment → Moment → Point → Type 0
CallsBehind device whose done moment old =
    (history : History) → history.bound ≡ bound_of device → HasSeen history old.held
    → makes_call device (after_moments device (along_at old) done)
    (history.entries ++ entries_in device whose (along_at old) done) moment ≡ true

-- they lose contact at this instant, at one of these moments
pub record StopsIn (device : Device) (whose : Whose) (moments : List Moment) (old new : Point) (instant : ℕ) :
    Type 0 where
  pub done : List Moment
  pub moment : Moment
  pub later : List Moment
  pub split : moments ≡ done ++ moment ∷ later
  pub then : moment.at ≡ instant
  pub calls : CallsBehind device whose done moment old
  pub sees : (history : History) → history.bound ≡ bound_of device → HasSeen history old.held
      → HasSeen (with_entries history (entries_in device whose (along_at old) done)) new.held
  pub tape : (new.told.tape ≡ with_calls old.told.tape (calls_in device (along_at old) done))
      ⊎ (new.told.tape ≡ with_calls old.told.tape (calls_in device (along_at old) (done ++ moment ∷ [])))

-- they stop among these moments
abbrev pub Stops : Device → Whose → List Moment → Point → Point → Stop → Type 0
Stops device whose moments old new stop.NoMemory = Unit {0}
Stops device whose moments old new (stop.Contact instant) = StopsIn device whose moments old new instant

-- they stop in a cycle
abbrev pub StopsCycle : Stand → ℕ → Going → Cycle → Point → Point → Stop → Type 0
StopsCycle stand exec going cycle old new stop.NoMemory = Unit {0}
StopsCycle stand exec going cycle old new (stop.Contact instant) = LosesContact stand exec going cycle old new instant

-- the count of faults has risen, where contact was lost
abbrev pub HasCause : ℕ → ℕ → Stop → Type 0
HasCause old new stop.NoMemory = Unit {0}
HasCause old new (stop.Contact instant) = HasRisen old new

-- what making moments of the open cycle answers: they were gone through, and more may follow, or else the cycle stopped
-- among them, which has its cause
abbrev pub MakesMoments : Device → Whose → List Moment → Point → Point → Result Unit Stop → Type 0
MakesMoments device whose moments old new (Ok done) = GoesThrough device whose moments old new × IsReady device new
MakesMoments device whose moments old new (Err why) =
    Stops device whose moments old new why × HasCause old.told.count new.told.count why

-- ---- drives and looks of a moment

-- each level that is wanted at a moment is that of the loaded die
abbrev pub AreLevels : Told → Held → Moment → ℕ → List Level → Type 0
AreLevels told held moment count levels =
    (history : History) → HasSeen history held → (signal : ℕ) → signal < count
    → is_sensed history.bound history.entries moment signal ≡ true
    → Shows told.loaded told.state signal (slice_index_or levels signal X)

-- the checker wants some level
abbrev pub WantsSome : Held → Moment → Type 0
WantsSome held moment =
    (history : History) → HasSeen history held
    → (signal : ℕ) × (is_sensed history.bound history.entries moment signal ≡ true)

-- a checker that has seen moments of a die
pub record IsCheckerOf (device : Device) (held : Held) : Type 0 where
  pub history : History
  pub seen : HasSeen history held
  pub bound : history.bound ≡ bound_of device

-- the checker is of the loaded die
abbrev pub IsCheckedBy : Option Device → Held → Type 0
IsCheckedBy None held = ⊥
IsCheckedBy (Some device) held = IsCheckerOf device held

-- the nets of the loaded die are settled
abbrev pub IsSettled : Option Device → State → Type 0
IsSettled None state = ⊥
IsSettled (Some device) state = Settled device.circuit.net.drivers device.fixed state.held state.levels

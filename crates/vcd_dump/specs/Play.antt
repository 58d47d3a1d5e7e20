-- Executives that are played while there aren't too many drives; no public clause cites it.
use Rattle.std.specs.Prelude.{◌≡◌, ℕ, ◌+◌, ◌-◌, ◌*◌, ◌/◌, min, nat_le, not, ◌&&◌, Bool, true, false, Option, Some, None, List, [], ◌∷◌, ◌++◌, take, length, if◌then◌else◌}
use Rattle.tester_types.specs.declared.cycle.Cycle.{Cycle}
use Rattle.die_sim.specs.Socket.{Calls}
use Rattle.site_meaning.specs.Playing.{Stand, Going}
use Rattle.site_meaning.specs.Trials.{played, after_cycles, has_fails}
use Rattle.cycle_run.specs.Batch.{Between, going_in, PlaysCycles, calls_of_cycles}
use Rattle.cycle_run.specs.declared.setup.Setup.{Setup}
use Rattle.cycle_run.specs.Setup.{stand_in}
use Rattle.cycle_run.specs.Seat.{between_of, CanPlay, IsBefore}
use Rattle.vcd_dump.specs.declared.execs.Way.{Way}
use Rattle.vcd_dump.specs.declared.execs.After.{After}
use Rattle.vcd_dump.specs.declared.execs.After.TheVariants as after
use Rattle.vcd_dump.specs.Recording.{recording_told}

-- how many of the cycles of an executive, which are so many, run before the order of the plan, if there is one: it
-- stands before the batch of this number from here on, and a batch has so many cycles at most
abbrev pub allowed : ℕ → Option ℕ → ℕ → ℕ
allowed most None count = count
allowed most (Some batch) count = min count (batch * most)

-- the order of the plan behind an executive of so many cycles
abbrev pub order_behind : ℕ → Option ℕ → ℕ → Option ℕ
order_behind most None count = None
order_behind most (Some batch) count = Some (batch - (count + (most - 1)) / most)

-- whether a try goes on behind an executive: all of its cycles ran, and there was no fail
abbrev pub goes_on : Stand → ℕ → ℕ → Going → Option ℕ → List Cycle → Bool
goes_on stand most exec going order cycles =
    nat_le (length cycles) (allowed most order (length cycles)) && not (has_fails (played stand exec going cycles))

-- the drive calls of a try from an executive on
unfoldable pub calls_from : Stand → ℕ → ℕ → Going → Option ℕ → List (List Cycle) → Calls
calls_from stand most exec going order [] = []
calls_from stand most exec going order (cycles ∷ later) =
    calls_of_cycles stand going (take (allowed most order (length cycles)) cycles)
    ++ (if goes_on stand most exec going order cycles
    then calls_from stand most (exec + 1) (after_cycles stand going cycles)
    (order_behind most order (length cycles)) later else [])

-- ---- a try that is under way

-- where it stands between two cycles
abbrev pub stands_at : Way → Between
stands_at way = between_of (recording_told way.recorder) way.at

-- what goes along there
abbrev pub going_of : Way → Going
going_of way = going_in (stands_at way)

-- so many more cycles can be played
abbrev pub CanGoOn : Setup → ℕ → Way → Type 0
CanGoOn setup more way = CanPlay setup more way.schedules (recording_told way.recorder) way.at

-- it stands before an executive, and no cycle so far had a fail
abbrev pub StandsBefore : Setup → ℕ → Way → Type 0
StandsBefore setup exec way = IsBefore setup 0 exec way.schedules (recording_told way.recorder) way.at

-- all calls were recorded, or some of them with which there are too many drives
abbrev pub RecordsSo : Bool → Calls → Way → Way → Type 0
RecordsSo true calls old new = new.recorder.calls ≡ old.recorder.calls ++ calls
RecordsSo false calls old new =
    (rest : Calls) × (new.recorder.calls ++ rest ≡ old.recorder.calls ++ calls) × (new.recorder.over ≡ true)

-- these cycles are played, or some of their calls are recorded, with which there are too many drives
abbrev pub PlaysSo : Setup → ℕ → List Cycle → Bool → Way → Way → Type 0
PlaysSo setup exec cycles true old new = PlaysCycles (stand_in setup) exec cycles (stands_at old) (stands_at new)
PlaysSo setup exec cycles false old new =
    RecordsSo false (calls_of_cycles (stand_in setup) (going_of old) cycles) old new

-- the calls of the cycles of an executive that run before the order of the plan
abbrev pub calls_here : Setup → ℕ → Option ℕ → List Cycle → Way → Calls
calls_here setup most order cycles way =
    calls_of_cycles (stand_in setup) (going_of way) (take (allowed most order (length cycles)) cycles)

-- what comes behind an executive: too many drives with some of its calls, or its calls, and the end of the try, or more
-- of it
abbrev pub ComesTo : Setup → ℕ → ℕ → Option ℕ → List Cycle → Way → Way → After → Type 0
ComesTo setup most exec order cycles old new after.Over =
    RecordsSo false (calls_here setup most order cycles old) old new
ComesTo setup most exec order cycles old new after.Ends =
    RecordsSo true (calls_here setup most order cycles old) old new
    × (goes_on (stand_in setup) most exec (going_of old) order cycles ≡ false)
ComesTo setup most exec order cycles old new (after.Goes next) =
    RecordsSo true (calls_here setup most order cycles old) old new
    × (goes_on (stand_in setup) most exec (going_of old) order cycles ≡ true)
    × (next ≡ order_behind most order (length cycles))
    × StandsBefore setup (exec + 1) new × (going_of new ≡ after_cycles (stand_in setup) (going_of old) cycles)

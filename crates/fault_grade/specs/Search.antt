-- What the code goes through to find a first fail. No public clause cites it.
use Rattle.std.specs.Prelude.{◌≡◌, ℕ, ◌+◌, ◌-◌, ◌<◌, ℤ, Bool, true, false, Option, List, [], length, map}
use Rattle.std.specs.List.{range_with_len}
use Rattle.tester_types.specs.declared.cycle.Cycle.{Cycle}
use Rattle.tester_types.specs.declared.record.Fail.{Fail}
use Rattle.packed_code.specs.Program.{Program}
use Rattle.edge_gen.specs.Held.{Held}
use Rattle.die_sim.specs.Die.{Device, Image}
use Rattle.die_sim.specs.Socket.{Told}
use Rattle.die_sim.specs.declared.image.StuckAt.{StuckAt}
use Rattle.strobe_check.specs.History.{HasSeen}
use Rattle.site_meaning.specs.Playing.{Stand}
use Rattle.site_meaning.specs.Trials.{played, after_cycles, fails_in}
use Rattle.cycle_run.specs.Cycle.{closed_with, Point}
use Rattle.cycle_run.specs.Batch.{Between, going_in}
use Rattle.cycle_run.specs.declared.setup.Setup.{Setup}
use Rattle.cycle_run.specs.declared.seat.Standing.{Standing}
use Rattle.cycle_run.specs.Setup.{code_in}
use Rattle.cycle_run.specs.Seat.{IsBefore}
use Rattle.word_run.specs.First.{first_fail, first_on, with_fault}
use Rattle.fault_grade.specs.Run.{fault_at}
use Rattle.fault_grade.specs.declared.graded.Graded.{Graded}

-- ---- what a try comes to

-- the grade of a fault on a die with the netlist and the binding of an image
abbrev pub graded_on : Program → List ℤ → Image → StuckAt → Graded
graded_on code skews image fault = record {
  net = fault.net;
  value = fault.value;
  first = first_on code skews (with_fault image fault);
}

-- those of the faults of these numbers, the last left out
unfoldable pub run_on : Program → List ℤ → Image → ℕ → ℕ → List Graded
run_on code skews image from to = map (λ k. graded_on code skews image (fault_at k)) (range_with_len from (to - from))

-- the first failing cycle of what a try is played with
abbrev pub first_in : Setup → Option ℕ
first_in setup = first_on (code_in setup) setup.skews.now setup.image.now

-- an image without its faults
abbrev pub bare : Image → Image
bare image = record image { faults = [] }

-- ---- what the code keeps on its way

-- one of the cycles of an executive has a fail: those fails that are found begin with the first of all
pub record Finds (stand : Stand) (exec : ℕ) (cycles : List Cycle) (old new : Between) : Type 0 where
  pub fails : List Fail
  pub seen : HasSeen (closed_with stand.device 1 fails) new.point.held
  pub first : first_fail fails ≡ first_fail (fails_in (played stand exec (going_in old) cycles))
  pub some : 0 < length fails

-- all cycles of an executive are played, and none has a fail
pub record Passes (stand : Stand) (exec : ℕ) (cycles : List Cycle) (old new : Between) : Type 0 where
  pub going : going_in new ≡ after_cycles stand (going_in old) cycles
  pub none : fails_in (played stand exec (going_in old) cycles) ≡ []

-- an executive is run up to its first fail
abbrev pub RunsUpTo : Stand → ℕ → List Cycle → Between → Between → Bool → Type 0
RunsUpTo stand exec cycles old new true = Finds stand exec cycles old new
RunsUpTo stand exec cycles old new false = Passes stand exec cycles old new

-- a try without a fail so far goes on with the next executive
abbrev pub GoesOn : Setup → ℕ → Held → Told → Standing → Bool → Type 0
GoesOn setup exec schedules told at true = Unit {0}
GoesOn setup exec schedules told at false = IsBefore setup 1 (exec + 1) schedules told at

-- the fails that are found begin with this one, if there is any
pub record HasFirst (device : Device) (first : Option ℕ) (point : Point) : Type 0 where
  pub fails : List Fail
  pub seen : HasSeen (closed_with device 1 fails) point.held
  pub is : first_fail fails ≡ first

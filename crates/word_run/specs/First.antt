-- The first failing cycle of a program on a die.
use Rattle.std.specs.Prelude.{ℕ, ◌+◌, ℤ, Option, Some, None, List, [], ◌∷◌}
use Rattle.std.specs.Option.{option_or}
use Rattle.tester_types.specs.declared.cycle.Cycle.{Cycle}
use Rattle.tester_types.specs.declared.record.Fail.{Fail}
use Rattle.packed_code.specs.Program.{Program}
use Rattle.die_sim.specs.Die.{Image, device_of}
use Rattle.die_sim.specs.declared.image.StuckAt.{StuckAt}
use Rattle.site_meaning.specs.Playing.{Stand, Going, starting}
use Rattle.site_meaning.specs.Trials.{played, after_cycles, fails_in, execs_of}
use Rattle.cycle_run.specs.Cycle.{stand_of}

-- the cycle of the first of these fails; none where there is no fail
abbrev pub first_fail : List Fail → Option ℕ
first_fail [] = None
first_fail (fail ∷ later) = Some fail.cycle

-- the cycle of the first fail of executives one after another, the first of which has this number
unfoldable pub first_from : Stand → ℕ → Going → List (List Cycle) → Option ℕ
first_from stand exec going [] = None
first_from stand exec going (cycles ∷ later) =
    option_or (first_fail (fails_in (played stand exec going cycles)))
    (first_from stand (exec + 1) (after_cycles stand going cycles) later)

-- the cycle of the first fail of a program, with these skews, on a die that is loaded from an image
unfoldable pub first_on : Program → List ℤ → Image → Option ℕ
first_on code skews image =
    first_from (stand_of code skews (device_of image)) 0 (starting (device_of image)) (execs_of code)

-- an image with this fault in place of its own
abbrev pub with_fault : Image → StuckAt → Image
with_fault image fault = record image { faults = fault ∷ [] }

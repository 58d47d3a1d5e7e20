-- The grade of a program on a die: for each single stuck-at fault the first cycle that finds it.
use Rattle.std.specs.Prelude.{ℕ, ◌∷◌, true, false, Option, None, List, [], length, map}
use Rattle.std.specs.List.{flat_map, range_with_len}
use Rattle.std.specs.Option.{option_map_or}
use Rattle.tester_types.specs.declared.record.Trial.{Trial}
use Rattle.die_sim.specs.Die.{Image, device_of}
use Rattle.die_sim.specs.declared.image.StuckAt.{StuckAt}
use Rattle.lot_plan.specs.Bound.{Bound}
use Rattle.lot_plan.specs.Readings.{first_of}
use Rattle.site_meaning.specs.Playing.{Stand, starting}
use Rattle.site_meaning.specs.Part.{Part, part_of, skews_in, circuit_in, image_in}
use Rattle.site_meaning.specs.Trials.{uncut, with_cut, tried, more_in, execs_of, recorded}
use Rattle.word_run.specs.First.{first_fail}
use Rattle.fault_grade.specs.declared.graded.Grade.{Grade}
use Rattle.fault_grade.specs.declared.graded.Graded.{Graded}

-- ---- one fault

-- a die with its netlist and its binding as they are loaded, where exactly these faults are active
abbrev pub image_with : Part → ℕ → List StuckAt → Image
image_with part die faults = record (image_in part die 1) { faults = faults }

-- what a try of it runs on
abbrev pub stand_with : Part → ℕ → List StuckAt → Stand
stand_with part die faults = record {
  code = part.code;
  skews = skews_in part;
  device = device_of (image_with part die faults);
}

-- a try of it, with no order of the plan, which keeps one fail
abbrev pub trial_with : Part → ℕ → List StuckAt → Trial
trial_with part die faults =
    recorded 1 1
    (with_cut None
    (tried (stand_with part die faults) (more_in part) 0 (starting (stand_with part die faults).device)
    (execs_of part.code))
    uncut)

-- the cycle of the first fail of a try of a die in which exactly these faults are active; none where no fail comes
unfoldable pub first : Part → ℕ → List StuckAt → Option ℕ
first part die faults = first_fail (trial_with part die faults).kept

-- ---- all faults

-- a net stuck at 0, and then at 1
abbrev pub faults_of_net : ℕ → List StuckAt
faults_of_net net = record { net = net; value = false } ∷ record { net = net; value = true } ∷ []

-- how many nets the first die has
abbrev pub nets_in : Part → ℕ
nets_in part = length (circuit_in part 0).net.names

-- the single stuck-at faults of the first die: those of each net, by rising number
unfoldable pub faults_in : Part → List StuckAt
faults_in part = flat_map faults_of_net (range_with_len 0 (nets_in part))

-- a fault of the first die, and the cycle that finds it
abbrev pub graded : Part → StuckAt → Graded
graded part fault = record { net = fault.net; value = fault.value; first = first part 0 (fault ∷ []) }

-- the first die without a fault, and with each of its faults
abbrev pub grade_in : Part → Grade
grade_in part = record { good = first part 0 []; faults = map (graded part) (faults_in part) }

-- the site of the plan's first die record
abbrev pub first_site : Bound → ℕ
first_site plan = option_map_or (λ d. d.0) (first_of plan.rows) 0

-- the part of that site, whose first die is that of the record
abbrev pub first_part : Bound → Part
first_part plan = part_of plan (first_site plan)

-- the grade of a plan
abbrev pub grade_of : Bound → Grade
grade_of plan = grade_in (first_part plan)

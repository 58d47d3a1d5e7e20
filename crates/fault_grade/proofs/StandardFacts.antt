-- Known facts, computed from the definitions: the grades of an inverter.
use Rattle.std.proofs.Common.{◌≡◌, ℕ, true, false, List, [], ◌∷◌, Option, Some, None, refl}
use Rattle.std.specs.Prelude.{codes}
use Rattle.packed_code.specs.declared.instr.Instr.{Instr}
use Rattle.packed_code.specs.declared.instr.Instr.TheVariants.{Run, Done}
use Rattle.packed_code.specs.Meaning.{bodies, repeated}
use Rattle.packed_code.specs.Program.{Program}
use Rattle.edge_gen.specs.Moments.{moments_of}
use Rattle.die_sim.specs.Stepped.{levels_through, captured_levels}
use Rattle.strobe_check.specs.Fails.{fails}
use Rattle.strobe_check.specs.Sensed.{is_sensed}
use Rattle.plan_rows.specs.declared.row.Row.TheVariants as row
use Rattle.lot_plan.specs.Bound.{Bound}
use Rattle.site_meaning.specs.Playing.{after_moments, entries_in, moments_in, moments_played}
use Rattle.site_meaning.specs.Part.{rows_for, circuits_for, skews_in, image_in, order_in}
use Rattle.site_meaning.specs.Trials.{played, after_cycles, fails_in, pieces, tried, execs_of, batches_of, cycles_in, blamed, trial}
use Rattle.site_meaning.proofs.SampleDie.{inverter, program}
use Rattle.fault_grade.specs.Grade.{first, faults_in, grade_of}
use Rattle.fault_grade.specs.declared.graded.Graded.{Graded}

-- the program that runs these instructions
abbrev program_of : List Instr → Program
program_of instrs = record program { execs = record { name = []; chains = []; instrs = instrs } ∷ [] }

-- a plan of one die
abbrev plan : Program → Bound
plan code = record {
  rows = row.Lot (record { batch = 256; tries = 1; keep = 8 })
      ∷ row.Die (record { site = 0; name = codes "d0"; file = codes "f" }) ∷ [];
  program = code;
  circuits = inverter ∷ [];
}

-- the grade of the inverter's faults, A and Y, each at 0 and 1
abbrev found : Option ℕ → Option ℕ → Option ℕ → Option ℕ → List Graded
found a_low a_high y_low y_high =
    record { net = 0; value = false; first = a_low } ∷ record { net = 0; value = true; first = a_high }
    ∷ record { net = 1; value = false; first = y_low } ∷ record { net = 1; value = true; first = y_high } ∷ []

-- two vectors find all faults
all_found : grade_of (plan program)
    ≡ record { good = None; faults = found (Some 1) (Some 0) (Some 0) (Some 1) }
unfolding first faults_in trial batches_of tried played after_cycles fails_in pieces execs_of cycles_in blamed rows_for circuits_for skews_in image_in order_in after_moments entries_in moments_in moments_played bodies repeated moments_of levels_through captured_levels fails is_sensed
all_found = refl

-- the first vector alone finds half of them
half_found : grade_of (plan (program_of (Run 0 0 0 1 ∷ Done ∷ [])))
    ≡ record { good = None; faults = found None (Some 0) (Some 0) None }
unfolding first faults_in trial batches_of tried played after_cycles fails_in pieces execs_of cycles_in blamed rows_for circuits_for skews_in image_in order_in after_moments entries_in moments_in moments_played bodies repeated moments_of levels_through captured_levels fails is_sensed
half_found = refl

-- Which faults of a grade each of its parts has: runs of neighbours. Parts are counted from 0 here.
use Rattle.std.specs.Prelude.{ℕ, ◌+◌, ◌*◌, []}
use Rattle.lot_plan.specs.Bound.{Bound}
use Rattle.fault_grade.specs.Grade.{first, first_part, nets_in}
use Rattle.fault_grade.specs.Run.{cut_at, run_of}
use Rattle.fault_grade.specs.declared.graded.Grade.{Grade}

-- how many faults the plan's first die has
abbrev pub faults_of : Bound → ℕ
faults_of plan = 2 * nets_in (first_part plan)

-- a part of the grade of a plan: the good die, and the faults of its run
unfoldable pub part_grade : Bound → ℕ → ℕ → Grade
part_grade plan parts part = record {
  good = first (first_part plan) 0 [];
  faults = run_of (first_part plan) (cut_at (faults_of plan) parts part) (cut_at (faults_of plan) parts (part + 1));
}

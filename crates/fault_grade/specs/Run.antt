-- A run of neighbours among the faults of a die, by their numbers.
use Rattle.std.specs.Prelude.{◌≡◌, ℕ, ◌+◌, ◌-◌, ◌/◌, ◌%◌, ◌==◌, ◌*◌, ◌<◌, List, Result, IfOk, map, slice_index_or}
use Rattle.std.specs.List.{range_with_len}
use Rattle.die_sim.specs.declared.image.StuckAt.{StuckAt}
use Rattle.site_meaning.specs.Part.{Part}
use Rattle.fault_grade.specs.Grade.{graded, nets_in}
use Rattle.fault_grade.specs.declared.graded.Graded.{Graded}
use Rattle.tester_types.specs.declared.outside.NoMemory.{NoMemory}

-- the fault of a number: net k / 2, stuck at k % 2
abbrev pub fault_at : ℕ → StuckAt
fault_at k = record { net = k / 2; value = k % 2 == 1 }

-- the grades of the faults of these numbers, the last left out
unfoldable pub run_of : Part → ℕ → ℕ → List Graded
run_of part from to = map (λ k. graded part (fault_at k)) (range_with_len from (to - from))

-- where the run of a worker begins, of so many workers who share so many faults
unfoldable pub cut_at : ℕ → ℕ → ℕ → ℕ
cut_at faults workers worker = faults * worker / workers

-- each worker of so many has answered the grades of its run, or want of memory
abbrev pub IsEachRun : Part → ℕ → List (Result (List Graded) NoMemory) → Type 0
IsEachRun part workers runs =
    (worker : ℕ) (other : Result (List Graded) NoMemory) → worker < workers
    → IfOk (slice_index_or runs worker other) (λ list. list
    ≡ run_of part (cut_at (2 * nets_in part) workers worker) (cut_at (2 * nets_in part) workers (worker + 1)))

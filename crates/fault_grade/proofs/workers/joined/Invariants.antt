use Rattle.std.proofs.Common.{◌≡◌, ◌≤◌, ◌*◌, ℕ, length}
use Rattle.site_meaning.specs.Part.{Part}
use Rattle.fault_grade.specs.Grade.{nets_in}
use Rattle.fault_grade.specs.Run.{cut_at, run_of, IsEachRun}
use Rattle.fault_grade.proofs.workers.joined.Given as goal

-- the runs so far are joined
abbrev pub invariant-loop-run : goal.invariant-loop-run
invariant-loop-run l = (part : Part) (workers : ℕ) → 1 ≤ workers → length l.runs ≡ workers → IsEachRun part workers l.runs
    → l.all.items ≡ run_of part 0 (cut_at (2 * nets_in part) workers l.run-index)

use Rattle.std.proofs.Common.{◌≡◌, ◌-◌, ◌≤◌, ◌++◌, ℤ, List, map}
use Rattle.std.specs.List.{range_with_len}
use Rattle.packed_code.specs.Program.{Program}
use Rattle.die_sim.specs.Die.{Image}
use Rattle.word_run.specs.First.{first_on, with_fault}
use Rattle.fault_grade.specs.Run.{fault_at}
use Rattle.fault_grade.specs.Search.{run_on}
use Rattle.fault_grade.proofs.run.append_graded.Given as goal

abbrev pub invariant-loop-number : goal.invariant-loop-number
invariant-loop-number l = record {
  order : l.from ≤ l.number;
  list : (code : Program) (skews : List ℤ) (image : Image)
      → l.firsts ≡ map (λ fault. first_on code skews (with_fault image fault)) (map fault_at (range_with_len l.from (l.to - l.from)))
      → l.list.items ≡ l.fn.list.items ++ run_on code skews image l.from l.number;
}

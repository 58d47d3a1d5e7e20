use Rattle.std.proofs.Common.{◌≡◌, ◌-◌, ◌≤◌}
use Rattle.cycle_run.specs.Setup.{code_in}
use Rattle.fault_grade.specs.Search.{run_on}
use Rattle.fault_grade.proofs.run.try_run.Given as goal

-- the faults so far are graded
abbrev pub invariant-loop-next : goal.invariant-loop-next
invariant-loop-next l = record {
  list : l.list.items ≡ run_on (code_in l.setup) l.setup.skews.now l.setup.image.now l.from l.next;
  order : l.from ≤ l.next;
  within : l.next ≤ l.to;
}

abbrev pub decreases-loop-next : goal.decreases-loop-next
decreases-loop-next l = l.to - l.next

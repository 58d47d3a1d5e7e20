use Rattle.std.proofs.Common.{◌≡◌, ◌++◌, [], All}
use Rattle.stil_ast.specs.Faults.CodeFaults.{compile_faults}
use Rattle.cycle_comp.specs.Working.{IsBuilt, IsFit}
use Rattle.cycle_comp.proofs.compiling.build_each.Given as goal

-- what was built is that of the executives that came, and these and the rest are all
abbrev pub invariant-loop-exec : goal.invariant-loop-exec
invariant-loop-exec l = record {
  can_go : (goal.iterator-loop-exec).can_next l.exec-iterator;
  ends : (goal.iterator-loop-exec).is_finite l.exec-iterator;
  built : IsBuilt l.signals l.yielded l.building;
  faults : compile_faults l.signals [] l.fn.execs.items
      ≡ compile_faults l.signals l.yielded l.exec-iterator.rest.items;
  all : l.fn.execs.items ≡ l.yielded ++ l.exec-iterator.rest.items;
  fit : All IsFit l.exec-iterator.rest.items;
}

use Rattle.std.proofs.Common.{◌≡◌, sum_by, take}
use Rattle.packed_code.specs.Count.{capped}
use Rattle.cycle_comp.specs.Counting.{vector_count}
use Rattle.cycle_comp.proofs.sizes.cycles_in.Given as goal

abbrev pub invariant-loop-tree : goal.invariant-loop-tree
invariant-loop-tree l = l.total ≡ capped (sum_by vector_count (take l.tree-index l.trees))

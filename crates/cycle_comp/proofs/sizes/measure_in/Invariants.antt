use Rattle.std.proofs.Common.{◌≡◌, ◌+◌, min, take}
use Rattle.text_bytes.specs.Limits.{most_measure}
use Rattle.cycle_comp.specs.Writing.{flats_measure}
use Rattle.cycle_comp.proofs.sizes.measure_in.Given as goal

abbrev pub invariant-loop-tree : goal.invariant-loop-tree
invariant-loop-tree l = l.total ≡ min (flats_measure (take l.tree-index l.trees)) (most_measure + 1)

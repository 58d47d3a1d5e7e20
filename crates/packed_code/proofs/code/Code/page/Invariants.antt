use Rattle.std.proofs.Common.{◌≡◌, ◌+◌, length, take}
use Rattle.std.specs.List.{flat_map}
use Rattle.packed_code.specs.Cycles.{pages_of_exec}
use Rattle.packed_code.proofs.code.Code.page.Given as goal

abbrev pub invariant-loop-exec : goal.invariant-loop-exec
invariant-loop-exec l = l.page ≡ length (flat_map pages_of_exec (take l.exec-index l.exec-items)) + l.left

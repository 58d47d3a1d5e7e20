use Rattle.std.proofs.Common.{◌≡◌, ◌*◌, ◌≤◌, length, take}
use Rattle.std.specs.List.{flat_map}
use Rattle.packed_code.specs.Cycles.{pages_of_exec}
use Rattle.packed_code.proofs.code.Code.pages_before.Given as goal

abbrev pub invariant-loop-number : goal.invariant-loop-number
invariant-loop-number l = record {
  exact : l.pages ≡ length (flat_map pages_of_exec (take l.number l.self.execs));
  few : l.pages ≤ 16385 * l.number;
}

use Rattle.std.proofs.Common.{◌≡◌, ◌≤◌, ◌*◌, length}
use Rattle.die_sim.specs.Waiting.{AreListed}
use Rattle.die_sim.proofs.waiting.list_waiting.Given as goal

abbrev pub invariant-loop-at : goal.invariant-loop-at
invariant-loop-at l = record {
  listed : AreListed l.nets l.bits (64 * l.at) l.count l.list.items;
  few : l.count ≤ 64 * l.at;
  size : length l.list.items ≡ length l.fn.list.items;
}

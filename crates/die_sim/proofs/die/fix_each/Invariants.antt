use Rattle.std.proofs.Common.{◌≡◌, take, length}
use Rattle.die_sim.specs.Die.{fixed_of}
use Rattle.die_sim.proofs.die.fix_each.Given as goal

abbrev pub invariant-loop-fault : goal.invariant-loop-fault
invariant-loop-fault l = record {
  all : l.fixed.items ≡ fixed_of (length l.fn.fixed.items) (take l.fault-index l.faults);
  count : length l.fixed.items ≡ length l.fn.fixed.items;
}

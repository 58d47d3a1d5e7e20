use Rattle.std.proofs.Common.{◌≡◌, take}
use Rattle.bench_net.specs.Gates.{zeros, ones}
use Rattle.die_sim.specs.Table.{gives, base_of}
use Rattle.die_sim.proofs.table.many_of.Given as goal

abbrev pub invariant-loop-pin : goal.invariant-loop-pin
invariant-loop-pin l = l.level ≡ gives (base_of l.fn.row) (zeros l.levels (take l.pin-index l.pins)) (ones l.levels (take l.pin-index l.pins)) l.pin-index

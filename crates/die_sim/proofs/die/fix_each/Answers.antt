use Rattle.std.proofs.Common.{length, take}
use Rattle.die_sim.proofs.CellLemmas.{AreStuck-of}
use Rattle.die_sim.proofs.die.fix_each.Goals as goal

pub returns-clause-stuck : goal.returns-clause-stuck
returns-clause-stuck c = AreStuck-of (length c.args.fixed.now.items) (take c.loop-fault.fault-index c.args.faults.now) c.loop-fault.fixed.items c.loop-fault.invariant.all

use Rattle.die_sim.specs.Settling.{drivers_of}
use Rattle.die_sim.proofs.WalkLemmas.{Refreshes-then, HaveLevels-more}
use Rattle.die_sim.proofs.settle.refresh_each.Goals as goal

pub loop-n-preserved : goal.loop-n-preserved
loop-n-preserved c =
    let w = c.args.wiring.now in
    let held = c.args.held.now in
    let start = c.args.nets.now in
    let old = c.loop-n.nets in
    let new = c.refresh_net.new.nets in
    record {
      refreshes = Refreshes-then (drivers_of w) w.fixed.items held start.levels.items old.levels.items new.levels.items start.pending old.pending new.pending c.loop-n.invariant.refreshes c.refresh_net.ensures.refreshes;
      each = HaveLevels-more (drivers_of w) w.fixed.items held old.levels.items new.levels.items old.pending new.pending c.args.list.now c.loop-n.n-index c.loop-n-test.true c.refresh_net.ensures.refreshes c.refresh_net.ensures.here c.loop-n.invariant.each;
      nets = c.refresh_net.ensures.nets;
    }

use Rattle.die_sim.proofs.TableLemmas.{many_more, many_done}
use Rattle.die_sim.proofs.table.many_of.Goals as goal

pub loop-pin-preserved : goal.loop-pin-preserved
loop-pin-preserved c =
    many_more c.args.row c.base_of-base.result c.args.levels.now c.args.pins.now c.loop-pin.pin-index c.loop-pin.level
    c.looked_up-level.result c.base_of-base.ensures c.loop-pin-test.true c.loop-pin.invariant c.looked_up-level.ensures

pub returns : goal.returns
returns c =
    many_done c.args.row c.args.levels.now c.args.pins.now c.loop-pin.pin-index c.unit_of-unit.result c.loop-pin.level
    c.looked_up.result c.unit_of-unit.ensures c.loop-pin-test.false c.loop-pin.auto.pin-index-end c.loop-pin.invariant
    c.looked_up.ensures

use Rattle.die_sim.proofs.StepLemmas.{Waits-all}
use Rattle.die_sim.proofs.CellLemmas.{first_is_own}
use Rattle.die_sim.specs.Settling.{drivers_of}
use Rattle.die_sim.proofs.settle.settle_first.Goals as goal
use Rattle.std.proofs.Common.{◌∙◌, sym}

pub walk-requires-clause-waits : goal.walk-requires-clause-waits
walk-requires-clause-waits c =
    Waits-all (drivers_of c.args.wiring.now) c.args.wiring.now.fixed.items c.args.held.now c.args.nets.now.levels.items c.args.nets.now.pending
    (c.requires.nets.seated.levels_count ∙ sym c.requires.wiring.whole.drivers) c.requires.pending

pub walk-requires-clause-sources : goal.walk-requires-clause-sources
walk-requires-clause-sources c =
    first_is_own (drivers_of c.args.wiring.now) c.args.wiring.now.fixed.items c.args.held.now c.args.nets.now.levels.items
    (c.requires.wiring.fixed_count ∙ sym c.requires.wiring.whole.drivers) _ c.requires.wiring.whole.drivers c.requires.held c.requires.levels

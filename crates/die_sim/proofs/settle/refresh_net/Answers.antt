use Rattle.std.proofs.Common.{◌∙◌, List, Option, ap}
use Rattle.tester_types.specs.declared.level.Level.{Level}
use Rattle.die_sim.specs.Die.{own_level}
use Rattle.die_sim.specs.Settling.{drivers_of}
use Rattle.die_sim.proofs.WalkLemmas.{Refreshes-one}
use Rattle.die_sim.proofs.settle.refresh_net.Goals as goal

pub returns-clause-refreshes : goal.returns-clause-refreshes
returns-clause-refreshes c =
    Refreshes-one (drivers_of c.args.wiring.now) c.requires.wiring.whole.wired c.args.wiring.now.fixed.items c.args.held.now
    c.args.nets.now.levels.items c.put_level.new.nets.levels.items c.args.nets.now.pending c.put_level.new.nets.pending c.args.n
    c.own_level-level.result
    c.requires.source c.requires.waits c.put_level.ensures.puts
    (c.own_level-level.ensures ∙ ap (λ (f : List (Option Level)). own_level f c.args.held.now c.args.n) c.as_slice.ensures.value)

pub returns-clause-nets : goal.returns-clause-nets
returns-clause-nets c = record {
  held_count = c.requires.nets.held_count;
  seated = c.put_level.ensures.seated;
  rest = c.put_level.ensures.rest c.args.held.now c.requires.nets.rest;
}

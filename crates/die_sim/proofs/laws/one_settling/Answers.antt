use Rattle.die_sim.proofs.SettlingLemmas.{one_settling_each}
use Rattle.die_sim.proofs.laws.one_settling.Goals as goal

pub returns : goal.returns
returns c = one_settling_each

use Rattle.die_sim.proofs.SteppedLemmas.{fresh_is_first}
use Rattle.die_sim.proofs.laws.one_first_state.Goals as goal

pub returns : goal.returns
returns c = fresh_is_first

use Rattle.die_sim.proofs.SteppedLemmas.{step_is_stepped, length-step}
use Rattle.die_sim.proofs.laws.one_next_state.Goals as goal

pub returns-clause-next : goal.returns-clause-next
returns-clause-next c = step_is_stepped

pub returns-clause-size : goal.returns-clause-size
returns-clause-size c = length-step

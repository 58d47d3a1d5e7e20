use Rattle.edge_gen.proofs.MomentLemmas.{moments_of-later}
use Rattle.edge_gen.proofs.laws.moments_of_a_later_cycle.Goals as goal

pub returns : goal.returns
returns c = moments_of-later

use Rattle.drill_fine.proofs.LawLemmas.{net_accepted}
use Rattle.drill_fine.proofs.laws.net_is_accepted.Goals as goal

pub returns : goal.returns
returns c = net_accepted

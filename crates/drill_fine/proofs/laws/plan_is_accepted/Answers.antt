use Rattle.drill_fine.proofs.LawLemmas.{plan_accepted}
use Rattle.drill_fine.proofs.laws.plan_is_accepted.Goals as goal

pub returns : goal.returns
returns c = plan_accepted

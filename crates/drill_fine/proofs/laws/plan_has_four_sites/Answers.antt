use Rattle.drill_fine.proofs.LawLemmas.{four_sites}
use Rattle.drill_fine.proofs.laws.plan_has_four_sites.Goals as goal

pub returns : goal.returns
returns c = four_sites

use Rattle.stil_program.proofs.FrontLemmas.{one_front}
use Rattle.drill_fine.proofs.LawLemmas.{bound_fine}
use Rattle.drill_fine.proofs.laws.drill_is_bound.Goals as goal

pub returns : goal.returns
returns c = bound_fine one_front

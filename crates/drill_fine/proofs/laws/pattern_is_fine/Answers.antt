use Rattle.drill_fine.proofs.FineLemmas.{text_fine}
use Rattle.drill_fine.proofs.laws.pattern_is_fine.Goals as goal

pub returns : goal.returns
returns c = text_fine

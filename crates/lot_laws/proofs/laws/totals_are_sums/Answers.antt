use Rattle.lot_laws.proofs.SumLemmas.{text_is_sums}
use Rattle.lot_laws.proofs.laws.totals_are_sums.Goals as goal

pub returns : goal.returns
returns c = text_is_sums

use Rattle.flat_lots.proofs.LawLemmas.{flat_lot}
use Rattle.flat_lots.proofs.laws.flat_lot.Goals as goal

pub returns : goal.returns
returns g c = flat_lot _

use Rattle.lot_parts.proofs.EndingLemmas.{ends_as}
use Rattle.lot_parts.proofs.outcome.out_of_memory.Goals as goal

pub returns : goal.returns
returns g c = ends_as _ _ _ _ _ _ _ c.no_memory.ensures

use Rattle.spelled_items.proofs.CellLemmas.{cells_are_refused}
use Rattle.spelled_items.proofs.laws.cells_are_refused.Goals as goal

pub returns : goal.returns
returns c = cells_are_refused

use Rattle.lot_laws.proofs.LotLemmas.{uncut_lot, one_uncut}
use Rattle.lot_laws.proofs.laws.uncut_lot_text.Goals as goal

pub returns-clause-book : goal.returns-clause-book
returns-clause-book c = uncut_lot

pub returns-clause-one : goal.returns-clause-one
returns-clause-one c = one_uncut

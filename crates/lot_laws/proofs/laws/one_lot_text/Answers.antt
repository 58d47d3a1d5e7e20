use Rattle.lot_laws.proofs.LotLemmas.{same_text}
use Rattle.lot_laws.proofs.laws.one_lot_text.Goals as goal

pub returns : goal.returns
returns c = same_text

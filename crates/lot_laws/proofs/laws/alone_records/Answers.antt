use Rattle.lot_laws.proofs.LotLemmas.{same_records, same_lines}
use Rattle.lot_laws.proofs.laws.alone_records.Goals as goal

pub returns-clause-records : goal.returns-clause-records
returns-clause-records c = same_records

pub returns-clause-lines : goal.returns-clause-lines
returns-clause-lines c = same_lines

use Rattle.site_meaning.proofs.AlikeLemmas.{records_alike, touchdowns_alike}
use Rattle.site_meaning.proofs.laws.alike_parts_record_alike.Goals as goal

pub returns-clause-all : goal.returns-clause-all
returns-clause-all c = records_alike

pub returns-clause-one : goal.returns-clause-one
returns-clause-one c = touchdowns_alike

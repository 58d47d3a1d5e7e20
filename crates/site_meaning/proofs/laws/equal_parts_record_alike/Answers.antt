use Rattle.site_meaning.proofs.PartLemmas.{same_records}
use Rattle.site_meaning.proofs.laws.equal_parts_record_alike.Goals as goal

pub returns : goal.returns
returns c = same_records

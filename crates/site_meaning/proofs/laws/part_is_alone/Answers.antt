use Rattle.site_meaning.proofs.PartLemmas.{part_of-only}
use Rattle.site_meaning.proofs.laws.part_is_alone.Goals as goal

pub returns : goal.returns
returns c = part_of-only

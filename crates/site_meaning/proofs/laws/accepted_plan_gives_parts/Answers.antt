use Rattle.site_meaning.proofs.SkewLemmas.{accepted_part}
use Rattle.site_meaning.proofs.laws.accepted_plan_gives_parts.Goals as goal

pub returns : goal.returns
returns c = accepted_part

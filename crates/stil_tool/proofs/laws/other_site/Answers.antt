use Rattle.stil_tool.proofs.AloneLemmas.{other_site}
use Rattle.stil_tool.proofs.laws.other_site.Goals as goal

pub returns : goal.returns
returns g c = other_site _

use Rattle.stil_tool.proofs.AloneLemmas.{text_is_sites}
use Rattle.stil_tool.proofs.laws.text_is_sites.Goals as goal

pub returns : goal.returns
returns g c = text_is_sites _

use Rattle.stil_tool.proofs.AloneLemmas.{one_text}
use Rattle.stil_tool.proofs.laws.one_text.Goals as goal

pub returns : goal.returns
returns g c = one_text _

use Rattle.stil_tool.proofs.QuietLemmas.{one_quiet_text}
use Rattle.stil_tool.proofs.laws.one_quiet_text.Goals as goal

pub returns : goal.returns
returns g c = one_quiet_text _

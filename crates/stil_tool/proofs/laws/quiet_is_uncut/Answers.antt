use Rattle.stil_tool.proofs.QuietLemmas.{quiet_is_uncut}
use Rattle.stil_tool.proofs.laws.quiet_is_uncut.Goals as goal

pub returns : goal.returns
returns g c = quiet_is_uncut _

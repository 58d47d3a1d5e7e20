use Rattle.stil_tool.proofs.AloneLemmas.{alone_lines}
use Rattle.stil_tool.proofs.laws.alone_lines.Goals as goal

pub returns : goal.returns
returns g c = alone_lines _

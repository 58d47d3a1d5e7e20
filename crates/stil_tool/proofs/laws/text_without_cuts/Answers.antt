use Rattle.stil_tool.proofs.QuietLemmas.{text_uncut, text_quiet}
use Rattle.stil_tool.proofs.laws.text_without_cuts.Goals as goal

pub returns-clause-uncut : goal.returns-clause-uncut
returns-clause-uncut g c = text_uncut _

pub returns-clause-quiet : goal.returns-clause-quiet
returns-clause-quiet g c = text_quiet _

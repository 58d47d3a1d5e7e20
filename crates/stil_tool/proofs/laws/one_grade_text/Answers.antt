use Rattle.stil_tool.proofs.OneTextLemmas.{one_grade_text}
use Rattle.stil_tool.proofs.laws.one_grade_text.Goals as goal

pub returns : goal.returns
returns c = one_grade_text

use Rattle.stil_tool.proofs.OneTextLemmas.{one_dump_text}
use Rattle.stil_tool.proofs.laws.one_dump_text.Goals as goal

pub returns : goal.returns
returns c = one_dump_text

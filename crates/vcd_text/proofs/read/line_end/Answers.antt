use Rattle.vcd_text.proofs.EndLemmas.{end_some, end_none}
use Rattle.vcd_text.proofs.read.line_end.Goals as goal

pub returns-in-Some : goal.returns-in-Some
returns-in-Some c = end_some c.args.text.now c.in-Some.end c.in-Some.ensures

pub returns-in-None : goal.returns-in-None
returns-in-None c = end_none c.args.text.now c.in-None.ensures

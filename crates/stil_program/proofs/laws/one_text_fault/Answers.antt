use Rattle.stil_program.proofs.FaultLemmas.{one_text_fault}
use Rattle.stil_program.proofs.laws.one_text_fault.Goals as goal

pub returns : goal.returns
returns c = one_text_fault

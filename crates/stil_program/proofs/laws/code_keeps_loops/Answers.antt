use Rattle.stil_program.proofs.ProgramLemmas.{code_keeps_loops}
use Rattle.stil_program.proofs.laws.code_keeps_loops.Goals as goal

pub returns : goal.returns
returns c = code_keeps_loops

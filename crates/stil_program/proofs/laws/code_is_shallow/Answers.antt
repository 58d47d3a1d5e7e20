use Rattle.stil_program.proofs.ProgramLemmas.{code_is_shallow}
use Rattle.stil_program.proofs.laws.code_is_shallow.Goals as goal

pub returns : goal.returns
returns c = code_is_shallow

use Rattle.fault_grade.proofs.RunLemmas.{run-join, run-all}
use Rattle.fault_grade.proofs.laws.runs_are_joined.Goals as goal

pub returns-clause-joined : goal.returns-clause-joined
returns-clause-joined c = λ part from mid to low high. run-join part from mid to low high

pub returns-clause-all : goal.returns-clause-all
returns-clause-all c = λ part. run-all part

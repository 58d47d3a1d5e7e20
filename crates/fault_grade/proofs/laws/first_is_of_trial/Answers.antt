use Rattle.fault_grade.proofs.FirstLemmas.{first-of_trial}
use Rattle.fault_grade.proofs.laws.first_is_of_trial.Goals as goal

pub returns : goal.returns
returns c = λ part die faults order keep same. first-of_trial part die faults order keep same

use Rattle.fault_grade.proofs.FirstLemmas.{same_grade}
use Rattle.fault_grade.proofs.laws.only_the_die_counts.Goals as goal

pub returns : goal.returns
returns c = λ plan other programs skews circuits bindings. same_grade plan other programs skews circuits bindings

use Rattle.std.proofs.Common.{◌∙◌, List, length, ap, sym, subst}
use Rattle.std.specs.Prelude.{Result}
use Rattle.tester_types.specs.declared.outside.NoMemory.{NoMemory}
use Rattle.fault_grade.specs.Grade.{first_part}
use Rattle.fault_grade.specs.Run.{IsEachRun}
use Rattle.fault_grade.specs.declared.graded.Graded.{Graded}
use Rattle.fault_grade.proofs.RunLemmas.{run-all}
use Rattle.fault_grade.proofs.workers.grade.Goals as goal

pub returns : goal.returns
returns g c =
    let part = first_part c.args.plan.now in
    let runs = c.in_ok-runs.ensures in
    let faults = c.in_ok-faults.ensures part c.args.workers c.requires.some
    (ap (λ (l : List (Result (List Graded) NoMemory)). length l) c.as_slice.ensures.value ∙ runs.count)
    (subst (λ (l : List (Result (List Graded) NoMemory)). IsEachRun part c.args.workers l) (sym c.as_slice.ensures.value) runs.each)
    ∙ run-all part in
    λ i. record { good = c.in_ok-good.ensures i; faults = faults i }

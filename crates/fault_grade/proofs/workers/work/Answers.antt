use Rattle.std.proofs.Common.{◌+◌, arith}
use Rattle.fault_grade.proofs.CutLemmas.{cut-rises, cut-within}
use Rattle.fault_grade.proofs.workers.work.Goals as goal

pub grade_run-requires-clause-order : goal.grade_run-requires-clause-order
grade_run-requires-clause-order g c =
    let rises = cut-rises c.fault_count-faults.result c.args.workers c.args.worker (omega (arith, c.requires.worker)) in
    omega (arith, rises, c.cut_at-from.ensures, c.cut_at-to.ensures)

pub grade_run-requires-clause-within : goal.grade_run-requires-clause-within
grade_run-requires-clause-within g c =
    let within = cut-within c.fault_count-faults.result c.args.workers (c.args.worker + 1) (omega (arith, c.requires.worker)) in
    omega (arith, within, c.cut_at-to.ensures, c.fault_count-faults.ensures.count)

use Rattle.std.proofs.Common.{◌∙◌, ◌*◌, ◌/◌, ℕ, ap}
use Rattle.fault_grade.proofs.CutLemmas.{cut-is}
use Rattle.fault_grade.proofs.workers.cut_at.Goals as goal

pub returns : goal.returns
returns c =
    ap (λ (n : ℕ). c.args.faults * c.args.worker / n) c.from.ensures ∙ cut-is c.args.faults c.args.workers c.args.worker

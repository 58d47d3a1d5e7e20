use Rattle.std.proofs.Common.{◌∙◌, ◌*◌, ◌/◌}
use Rattle.fault_grade.proofs.CutLemmas.{cut-is}
use Rattle.grade_parts.proofs.part.cut_at.Goals as goal

pub returns : goal.returns
returns c = (λ i. c.args.faults * c.from.ensures i / c.from-2.ensures i) ∙ cut-is c.args.faults c.args.parts c.args.part

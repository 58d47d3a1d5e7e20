use Rattle.std.proofs.Common.{arith}
use Rattle.plan_parts.proofs.PartLemmas.{part_is_plan}
use Rattle.plan_parts.proofs.laws.part_is_plan.Goals as goal

pub returns : goal.returns
returns c = λ bytes text rows parts part less is. part_is_plan bytes text rows parts part (omega (arith, less)) less is

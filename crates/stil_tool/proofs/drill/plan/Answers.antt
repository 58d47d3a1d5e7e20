use Rattle.std.proofs.Common.{◌∙◌}
use Rattle.stil_tool.proofs.DrillLemmas.{plan_refused}
use Rattle.stil_tool.proofs.drill.plan.Goals as goal

pub returns : goal.returns
returns c =
    plan_refused c.args.number c.as_slice.result.now c.in-Err.fault (c.as_slice.ensures.value ∙ c.in-Ok.ensures.text) c.in-Err.ensures.fault

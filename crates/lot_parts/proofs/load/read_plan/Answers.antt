use Rattle.tool_inputs.proofs.InputLemmas.{plan_refused}
use Rattle.lot_parts.proofs.load.read_plan.Goals as goal

pub returns-clause-reads : goal.returns-clause-reads
returns-clause-reads g c =
    plan_refused _ _ _ c.args.plan.now _ c.as_slice.result.now c.in-Err.fault c.in_ok-bytes.ensures.found c.as_slice.ensures.value
    c.in-Err.ensures.fault

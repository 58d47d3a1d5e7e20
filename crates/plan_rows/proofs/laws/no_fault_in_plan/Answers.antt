use Rattle.plan_rows.proofs.PlanLemmas.{no_fault_where_read}
use Rattle.plan_rows.proofs.laws.no_fault_in_plan.Goals as goal

pub returns : goal.returns
returns c = no_fault_where_read

use Rattle.plan_rows.proofs.PlanLemmas.{one_list}
use Rattle.plan_rows.proofs.laws.one_record_list.Goals as goal

pub returns : goal.returns
returns c = one_list

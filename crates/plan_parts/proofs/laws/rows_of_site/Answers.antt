use Rattle.plan_parts.proofs.PartLemmas.{rows_of_site}
use Rattle.plan_parts.proofs.laws.rows_of_site.Goals as goal

pub returns : goal.returns
returns c = λ bytes rows parts part number less plan low. rows_of_site bytes rows parts part number less plan low

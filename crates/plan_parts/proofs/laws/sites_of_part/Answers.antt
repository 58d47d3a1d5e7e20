use Rattle.plan_parts.proofs.CountLemmas.{names_of_part, sites_of_part}
use Rattle.plan_parts.proofs.laws.sites_of_part.Goals as goal

pub returns-clause-count : goal.returns-clause-count
returns-clause-count c = λ bytes rows parts part less plan. sites_of_part bytes rows parts part less plan

pub returns-clause-dies : goal.returns-clause-dies
returns-clause-dies c = λ bytes rows parts part number less plan low. (names_of_part bytes rows parts part number less plan low).0

pub returns-clause-names : goal.returns-clause-names
returns-clause-names c = λ bytes rows parts part number less plan low. (names_of_part bytes rows parts part number less plan low).1

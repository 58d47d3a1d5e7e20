use Rattle.plan_parts.proofs.RankLemmas.{number_within}
use Rattle.plan_parts.proofs.CountLemmas.{number_of_site}
use Rattle.plan_parts.proofs.laws.numbers_of_part.Goals as goal

pub returns-clause-within : goal.returns-clause-within
returns-clause-within c = λ parts part ranks number less. number_within parts part ranks less number

pub returns-clause-site : goal.returns-clause-site
returns-clause-site c = λ rows parts site some has. number_of_site rows parts site some has

use Rattle.spelled_items.proofs.DataLemmas.{data_are_refused}
use Rattle.spelled_items.proofs.laws.data_are_refused.Goals as goal

pub returns : goal.returns
returns c = data_are_refused

use Rattle.page_code.proofs.LoadLemmas.{none_begins}
use Rattle.page_code.proofs.laws.no_spelling_begins_another.Goals as goal

pub returns : goal.returns
returns c = λ version later code other bytes longer rest a b same. none_begins version later code other bytes longer rest a b same

use Rattle.lot_laws.proofs.CodeLemmas.{codes_of_text, code_of_saved}
use Rattle.lot_laws.proofs.laws.codes_agree.Goals as goal

pub returns-clause-text : goal.returns-clause-text
returns-clause-text c = codes_of_text

pub returns-clause-saved : goal.returns-clause-saved
returns-clause-saved c = code_of_saved

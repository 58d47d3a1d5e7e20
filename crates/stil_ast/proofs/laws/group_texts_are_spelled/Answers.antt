use Rattle.stil_ast.proofs.GroupLemmas.{terms_are_spelled}
use Rattle.stil_ast.proofs.laws.group_texts_are_spelled.Goals as goal

pub returns : goal.returns
returns c = terms_are_spelled

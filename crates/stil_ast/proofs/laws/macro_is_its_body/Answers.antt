use Rattle.stil_ast.proofs.MacroLemmas.{macro_is_its_body}
use Rattle.stil_ast.proofs.laws.macro_is_its_body.Goals as goal

pub returns : goal.returns
returns c = macro_is_its_body

use Rattle.std.proofs.Common.{List, subst}
use Rattle.std.specs.Prelude.{Result}
use Rattle.stil_form.specs.declared.fault.FormFault.{FormFault}
use Rattle.stil_form.specs.Lexeme.{lexemes}
use Rattle.stil_form.specs.Reading.{Answers}
use Rattle.stil_ast.specs.declared.name.NameRef.{NameRef}
use Rattle.scan_blocks.proofs.WorkingLemmas.{cells_worked-said}
use Rattle.scan_blocks.proofs.cells.read_cells.Goals as goal

-- one pass gives the cells of the definition
pub returns : goal.returns
returns c =
    subst (λ (wanted : Result (List NameRef) FormFault). Answers c.read_worked.result wanted)
    (cells_worked-said c.args.first (lexemes c.args.rest)) c.read_worked.ensures

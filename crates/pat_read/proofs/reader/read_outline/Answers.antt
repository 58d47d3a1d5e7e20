use Rattle.std.proofs.Common.{◌∙◌, Err, ap, sym}
use Rattle.stil_tree.specs.Trees.{entry_of}
use Rattle.stil_form.specs.Lexeme.{lexemes}
use Rattle.pat_read.specs.declared.outline.Outline.{Outline}
use Rattle.stil_form.specs.Setting.{at_statement}
use Rattle.pat_read.specs.Statements.{statement_said}
use Rattle.pat_read.proofs.FormLemmas.{answers_same, fault_at_statement}
use Rattle.pat_read.proofs.reader.read_outline.Goals as goal

pub returns-in-Ok : goal.returns-in-Ok
returns-in-Ok c =
    let same = ap (λ has. statement_said c.args.top has (lexemes c.head_at.result)) c.has_block.ensures ∙ ap (statement_said c.args.top _) c.head_at.ensures.lexemes in
    ap (at_statement (entry_of c.args.stmt.now).first) (sym same ∙ c.in-Ok.ensures)

pub returns-in-Err : goal.returns-in-Err
returns-in-Err c =
    let same = ap (λ has. statement_said c.args.top has (lexemes c.head_at.result)) c.has_block.ensures ∙ ap (statement_said c.args.top _) c.head_at.ensures.lexemes in
    rw (c.at.ensures, c.first_of.ensures)
    (fault_at_statement (λ (read : Outline). read) (λ (read : Outline). read) c.in-Err.fault (entry_of c.args.stmt.now).first _
    (answers_same (λ (read : Outline). read) (Err c.in-Err.fault) _ _ same c.in-Err.ensures))

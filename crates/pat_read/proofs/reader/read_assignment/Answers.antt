use Rattle.std.proofs.Common.{◌≡◌, ◌∙◌, ℕ, List, [], Bor, Ok, Err, ap, sym, subst}
use Rattle.stil_tree.specs.Trees.{entry_of}
use Rattle.stil_ast.specs.declared.assignment_list.RefKind.{RefKind}
use Rattle.stil_ast.specs.declared.body.Assignment.{Assignment}
use Rattle.stil_form.specs.Setting.{setting_of, at_statement}
use Rattle.pat_read.specs.References.{as_assignment}
use Rattle.pat_read.specs.Body.{judge_assignment}
use Rattle.pat_read.proofs.FormLemmas.{answers_same, same_assignment, fault_at_statement}
use Rattle.pat_read.proofs.reader.read_assignment.Goals as goal

pub returns-in-Ok : goal.returns-in-Ok
returns-in-Ok c =
    let e = entry_of c.args.stmt.now in
    let same = same_assignment _ _ _ _ _ _ _ _ _ _ c.head_at.ensures.bytes c.head_at.ensures.tokens
    c.line_of-line.ensures c.has_block.ensures c.head_at.ensures.lexemes in
    subst (λ (line : ℕ). judge_assignment (setting_of c.args.form.now) [] e ≡ Ok (as_assignment line c.in-Ok.found.0 c.in-Ok.found.1.now c.assignment_of.new.items))
    c.line_of-line.ensures (ap (at_statement e.first) (sym same ∙ c.in-Ok.ensures))

pub returns-in-Err : goal.returns-in-Err
returns-in-Err c =
    let said : RefKind × Bor (List ℕ) → Assignment =
    λ found. as_assignment c.line_of-line.result found.0 found.1.now c.assignment_of.new.items in
    let same = same_assignment _ _ _ _ _ _ _ _ _ _ c.head_at.ensures.bytes c.head_at.ensures.tokens
    c.line_of-line.ensures c.has_block.ensures c.head_at.ensures.lexemes in
    rw (c.at.ensures, c.first_of.ensures)
    (fault_at_statement said said c.in-Err.fault (entry_of c.args.stmt.now).first _
    (answers_same said (Err c.in-Err.fault) _ _ same c.in-Err.ensures))

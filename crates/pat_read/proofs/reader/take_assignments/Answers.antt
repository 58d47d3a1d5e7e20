use Rattle.std.proofs.Common.{ℕ, List, [], Bor, sym, ◌∙◌}
use Rattle.std.proofs.lemmas.Result.{err_from_is_err_and}
use Rattle.stil_tree.specs.Trees.{entry_of}
use Rattle.stil_form.proofs.ReadingLemmas.{unskipped_stops}
use Rattle.stil_ast.specs.declared.assignment_list.RefKind.{RefKind}
use Rattle.stil_ast.specs.declared.body.Assignment.{Assignment}
use Rattle.stil_form.specs.Setting.{setting_of}
use Rattle.pat_read.specs.Body.{assignment_with, judge_assignment}
use Rattle.pat_read.proofs.FormLemmas.{fault_seen}
use Rattle.pat_read.proofs.reader.take_assignments.Goals as goal

pub returns-in_err-reference : goal.returns-in_err-reference
returns-in_err-reference c =
    let p = err_from_is_err_and c.from_residual.result c.from_residual.ensures.1 in
    let form = c.args.form.now in
    let item = entry_of c.stmt-item.result in
    let fault = c.in_err-reference.field-0.0 in
    let said : RefKind × Bor (List ℕ) → Assignment =
    λ found. assignment_with (setting_of form) item found.0 found.1.now c.read_assignment.new.items in
    rw (p.1, p.2)
    (unskipped_stops {Z = List Assignment} (λ read. read) entry_of (judge_assignment (setting_of form))
    (setting_of form) c.loop-stmt.read c.args.stmts.now
    c.loop-stmt.stmt-index c.stmt-item.result _ fault c.loop-stmt-test.true c.stmt-item.is
    (sym c.skips.ensures ∙ c.if-skips.false) c.loop-stmt.invariant
    (fault_seen said (λ (a : Assignment). a) fault (judge_assignment (setting_of form) [] item) c.in_err-reference.ensures))

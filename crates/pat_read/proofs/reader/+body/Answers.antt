use Rattle.std.proofs.Common.{Vec, Global, ◌+◌, ◌∙◌, ap, sym, map, drop, [], arith}
use Rattle.std.proofs.lemmas.Result.{err_from_is_err_and}
use Rattle.stil_tree.specs.Trees.{entry_of, trees_from}
use Rattle.stil_ast.specs.declared.body.PatStmt.{PatStmt}
use Rattle.stil_form.specs.Setting.{setting_of}
use Rattle.pat_read.specs.Body.{body_from}
use Rattle.pat_read.proofs.BodyLemmas.{body_goes_on, body_stops, weight-inner}
use Rattle.pat_read.proofs.reader.+body.Goals as goal

pub read_stmts-read_stmt-requires : goal.read_stmts-read_stmt-requires
read_stmts-read_stmt-requires t c =
    let small = weight-inner c.args.stmts.now c.loop-stmt.stmt-index c.stmt-item.result c.loop-stmt-test.true c.stmt-item.is in
    (omega (arith, small, c.decreases), tt)

pub read_stmts-returns-in_err-stmt : goal.read_stmts-returns-in_err-stmt
read_stmts-returns-in_err-stmt t c =
    let p = err_from_is_err_and c.from_residual-in_err-stmt.result c.from_residual-in_err-stmt.ensures.1 in
    rw (p.1, p.2)
    (body_stops {Z = Vec PatStmt Global} (λ read. read.items) (setting_of c.args.form.now) c.args.top c.loop-stmt.read.items c.args.stmts.now
    c.loop-stmt.stmt-index c.stmt-item.result _ c.in_err-stmt.field-0.0 c.loop-stmt-test.true c.stmt-item.is
    (sym c.skips.ensures ∙ c.if-skips.false) c.in_err-stmt.ensures c.loop-stmt.invariant)

pub read_stmts-loop-stmt-preserved : goal.read_stmts-loop-stmt-preserved
read_stmts-loop-stmt-preserved t c =
    let form = setting_of c.args.form.now in
    ap (λ items. body_from form c.args.top items (trees_from (map entry_of (drop (c.loop-stmt.stmt-index + 1) c.args.stmts.now)))) c.in_ok-push.ensures.items
    ∙ body_goes_on form c.args.top c.loop-stmt.read.items c.args.stmts.now c.loop-stmt.stmt-index c.stmt-item.result
    (body_from form c.args.top [] (trees_from (map entry_of c.args.stmts.now))) c.in_ok-stmt.stmt c.loop-stmt-test.true c.stmt-item.is
    (sym c.skips.ensures ∙ c.if-skips.false) c.in_ok-stmt.ensures c.loop-stmt.invariant

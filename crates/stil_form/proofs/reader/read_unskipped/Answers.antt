use Rattle.std.proofs.Common.{Vec, Global, sym, ◌∙◌}
use Rattle.std.proofs.lemmas.Result.{err_from_is_err_and}
use Rattle.stil_tree.specs.Trees.{entry_of}
use Rattle.stil_form.specs.Setting.{setting_of}
use Rattle.stil_form.proofs.ReadingLemmas.{unskipped_stops}
use Rattle.stil_form.proofs.reader.read_unskipped.Goals as goal

pub returns-in_err-data : goal.returns-in_err-data
returns-in_err-data g c =
    let p = err_from_is_err_and c.from_residual.result c.from_residual.ensures.1 in
    rw (p.1, p.2)
    (unskipped_stops {Z = Vec g.row.F-Data.Denot Global} (λ read. read.items) entry_of (g.F.Form.judge c.args.form.now)
    (setting_of c.args.reader.now) c.loop-stmt.read.items c.args.stmts.now
    c.loop-stmt.stmt-index c.stmt-item.result _ c.in_err-data.field-0.0 c.loop-stmt-test.true c.stmt-item.is
    (sym c.skips.ensures ∙ c.if-skips.false) c.loop-stmt.invariant
    (rw (← c.as_slice.ensures.value) c.in_err-data.ensures))

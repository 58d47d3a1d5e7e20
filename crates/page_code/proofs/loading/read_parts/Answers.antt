use Rattle.std.proofs.lemmas.Result.{err_from_is_err_and}
use Rattle.page_code.proofs.LoadLemmas.{reads_earlier, program_made, program_stops}
use Rattle.page_code.proofs.loading.read_parts.Goals as goal

pub returns-in_err-execs : goal.returns-in_err-execs
returns-in_err-execs c =
    let e = reads_earlier c.len-width.ensures c.in_ok-count.ensures c.in_ok-signals.ensures
    c.in_ok-count-2.ensures c.in_ok-tables.ensures c.in_ok-count-3.ensures c.in_ok-rows.ensures c.in_ok-count-4.ensures in
    let p = err_from_is_err_and c.from_residual-in_err-execs.result c.from_residual-in_err-execs.ensures.1 in
    rw (p.1, p.2)
    (program_stops c.in_err-execs.field-0.0 c.args.version c.args.bytes.now _ _ _ _ _ _ _ e c.len-width.ensures c.as_slice.ensures
    c.in_err-execs.ensures)

pub returns : goal.returns
returns c =
    let e = reads_earlier c.len-width.ensures c.in_ok-count.ensures c.in_ok-signals.ensures
    c.in_ok-count-2.ensures c.in_ok-tables.ensures c.in_ok-count-3.ensures c.in_ok-rows.ensures c.in_ok-count-4.ensures in
    program_made c.args.version c.args.bytes.now _ _ _ _ _ _ _ _ _ e c.len-width.ensures c.as_slice.ensures c.in_ok-execs.ensures

use Rattle.std.proofs.lemmas.Result.{err_from_is_err_and}
use Rattle.log_parts.proofs.ReadTryLemmas.{try_stops, try_read}
use Rattle.log_parts.proofs.tries.read_try.Goals as goal

pub returns-in_err-read_verdict : goal.returns-in_err-read_verdict
returns-in_err-read_verdict c =
    let p = err_from_is_err_and c.from_residual.result c.from_residual.ensures.1 in
    let f = c.read_fails.ensures in
    rw (p.1, p.2)
    (try_stops c.args.lines.now c.read_fails.new.lines f.0 c.in_err-read_verdict.field-0.0 f.1 f.2 f.3
    c.in_err-read_verdict.ensures.0 c.in_err-read_verdict.ensures.1)

pub returns : goal.returns
returns c =
    let f = c.read_fails.ensures in
    let v = c.in_ok-read_verdict.ensures in
    try_read c.args.lines.now c.read_fails.new.lines c.read_verdict.new.lines f.0 v.0 f.1 f.2 v.1 v.2 v.3

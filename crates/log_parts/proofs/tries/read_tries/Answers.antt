use Rattle.std.proofs.Common.{refl}
use Rattle.std.proofs.lemmas.Result.{err_from_is_err_and}
use Rattle.log_parts.proofs.ReadTryLemmas.{more_read, more_stops}
use Rattle.log_parts.proofs.tries.read_tries.Goals as goal

pub loop-lines-preserved : goal.loop-lines-preserved
loop-lines-preserved c =
    let r = c.loop-lines-test.ensures.read refl in
    more_read c.loop-lines.number _ c.args.lines.now c.loop-lines.lines c.read_head.new.lines c.read_try.new.lines r.0 refl c.loop-lines.invariant r.1 r.2
    c.in_ok-read_try.ensures

pub returns-in_err-read_try : goal.returns-in_err-read_try
returns-in_err-read_try c =
    let p = err_from_is_err_and c.from_residual-in_err-read_try.result c.from_residual-in_err-read_try.ensures.1 in
    let r = c.loop-lines-test.ensures.read refl in
    rw (p.1, p.2)
    (more_stops c.loop-lines.number c.args.lines.now c.loop-lines.lines c.read_head.new.lines r.0 c.in_err-read_try.field-0.0 c.loop-lines.invariant r.1 r.2
    c.in_err-read_try.ensures)

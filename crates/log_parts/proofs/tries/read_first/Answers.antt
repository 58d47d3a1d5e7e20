use Rattle.std.proofs.lemmas.Result.{err_from_is_err_and}
use Rattle.log_parts.proofs.ReadTryLemmas.{head_stops, first_stops, first_read}
use Rattle.log_parts.proofs.tries.read_first.Goals as goal

pub returns-then-not-read_head : goal.returns-then-not-read_head
returns-then-not-read_head c =
    let none = c.read_head.ensures.none c.if-not-read_head.true in
    head_stops c.args.lines.now c.read_head.new.lines c.number.result none.0 c.number.ensures.number none.1

pub returns-in_err-read_try : goal.returns-in_err-read_try
returns-in_err-read_try c =
    let p = err_from_is_err_and c.from_residual.result c.from_residual.ensures.1 in
    let r = c.read_head.ensures.read c.if-not-read_head.false in
    rw (p.1, p.2)
    (first_stops c.args.lines.now c.read_head.new.lines r.0 c.in_err-read_try.field-0.0 r.1 r.2 c.in_err-read_try.ensures)

pub returns : goal.returns
returns c =
    let r = c.read_head.ensures.read c.if-not-read_head.false in
    first_read c.args.lines.now c.read_head.new.lines c.read_try.new.lines r.0 r.1 r.2 c.in_ok-read_try.ensures

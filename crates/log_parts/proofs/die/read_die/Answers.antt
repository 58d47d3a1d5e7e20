use Rattle.std.proofs.lemmas.Result.{err_from_is_err_and}
use Rattle.log_parts.proofs.ReadDieLemmas.{die_stops, tries_stop, bin_stops, die_read}
use Rattle.log_parts.proofs.die.read_die.Goals as goal

pub returns-in_err-expect_die : goal.returns-in_err-expect_die
returns-in_err-expect_die c =
    let p = err_from_is_err_and c.from_residual.result c.from_residual.ensures.1 in
    rw (p.1, p.2)
    (die_stops c.args.name.now c.args.lines.now c.in_err-expect_die.field-0.0 c.requires c.in_err-expect_die.ensures.0
    c.in_err-expect_die.ensures.1)

pub returns-in_err-read_tries : goal.returns-in_err-read_tries
returns-in_err-read_tries c =
    let p = err_from_is_err_and c.from_residual-in_err-read_tries.result c.from_residual-in_err-read_tries.ensures.1 in
    rw (p.1, p.2)
    (tries_stop c.args.name.now c.args.lines.now c.expect_die.new.lines c.in_err-read_tries.field-0.0 c.in_ok-expect_die.ensures
    c.in_err-read_tries.ensures)

pub returns-in_err-bin : goal.returns-in_err-bin
returns-in_err-bin c =
    let p = err_from_is_err_and c.from_residual-in_err-bin.result c.from_residual-in_err-bin.ensures.1 in
    let t = c.in_ok-read_tries.ensures in
    rw (p.1, p.2)
    (bin_stops c.args.name.now c.args.lines.now c.expect_die.new.lines c.read_tries.new.lines t.0 c.in_err-bin.field-0.0
    c.in_ok-expect_die.ensures t.1 t.2 c.in_err-bin.ensures.0 c.in_err-bin.ensures.1)

pub returns : goal.returns
returns c =
    let t = c.in_ok-read_tries.ensures in
    let n = c.in_ok-bin.ensures in
    die_read c.args.name.now c.args.lines.now c.expect_die.new.lines c.read_tries.new.lines c.read_bin.new.lines t.0 c.in_ok-bin.bin
    c.args.bins.now.items c.push.new.self.items n.0 n.1 c.in_ok-expect_die.ensures t.1 n.2 c.in_ok-push.ensures.items

use Rattle.std.proofs.lemmas.Result.{err_from_is_err_and}
use Rattle.log_parts.proofs.ReadDieLemmas.{dies_more, dies_stop, none_are_read, one_line_at}
use Rattle.log_parts.proofs.die.read_dies.Goals as goal

pub read_die-requires : goal.read_die-requires
read_die-requires c = one_line_at c.args.names.now c.loop-name.name-index _ c.loop-name-test.true c.requires

pub loop-name-init : goal.loop-name-init
loop-name-init c = none_are_read c.args.lines.now c.args.bins.now.items

pub loop-name-preserved : goal.loop-name-preserved
loop-name-preserved c =
    dies_more c.args.names.now c.loop-name.name-index _ c.args.lines.now c.loop-name.lines c.read_die.new.lines c.args.bins.now.items
    c.loop-name.bins.items c.read_die.new.bins.items c.loop-name-test.true c.loop-name.invariant c.in_ok-read_die.ensures

pub returns-in_err-read_die : goal.returns-in_err-read_die
returns-in_err-read_die c =
    let p = err_from_is_err_and c.from_residual.result c.from_residual.ensures.1 in
    rw (p.1, p.2)
    (dies_stop c.args.names.now c.loop-name.name-index _ c.args.lines.now c.loop-name.lines c.args.bins.now.items c.loop-name.bins.items
    c.in_err-read_die.field-0.0 c.loop-name-test.true c.loop-name.invariant c.in_err-read_die.ensures)

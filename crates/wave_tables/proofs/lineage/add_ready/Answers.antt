use Rattle.std.proofs.Common.{arith, get_or, false, ◌<◌, length}
use Rattle.std.proofs.lemmas.List.{get_or_default}
use Rattle.wave_tables.specs.Scope.{timed}
use Rattle.wave_tables.proofs.AddLemmas.{adds_none, adds_more}
use Rattle.wave_tables.proofs.lineage.add_ready.Goals as goal

pub loop-number-init : goal.loop-number-init
loop-number-init c = adds_none (timed c.args.scope.now) c.args.inherits.now c.args.wholes.now

pub loop-number-preserved : goal.loop-number-preserved
loop-number-preserved c =
    let within : c.loop-number.number < length c.args.ready.now = omega arith in
    let here = get_or c.args.ready.now c.loop-number.number false in
    let more = adds_more (timed c.args.scope.now) c.args.inherits.now c.args.ready.now c.loop-number.number here
    c.args.wholes.now c.loop-number.wholes c.add_if.new.wholes c.loop-number.added c.in_ok-more.more within
    (get_or_default c.args.ready.now c.loop-number.number false here within) c.loop-number.invariant
    c.in_ok-more.ensures in
    rw c.either-added.ensures more

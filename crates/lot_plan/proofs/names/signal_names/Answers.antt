use Rattle.bench_net.specs.Views.{texts}
use Rattle.lot_plan.proofs.NameLemmas.{any-signal}
use Rattle.lot_plan.proofs.names.signal_names.Goals as goal

pub loop-signal-preserved : goal.loop-signal-preserved
loop-signal-preserved c = λ name. any-signal (texts c.loop-signal.names.keys) (texts c.add.new.names.keys) c.args.signals.now
    c.loop-signal.signal-index
    c.signal-item.result c.as_slice.result.now name _ c.loop-signal-test.true c.signal-item.is c.in_ok-add.ensures
    c.as_slice.ensures
    (c.loop-signal.invariant name)

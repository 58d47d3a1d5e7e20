use Rattle.bench_net.proofs.ReaderLemmas.{AddsReaders-more}
use Rattle.bench_net.proofs.order.add_readers.Goals as goal

pub loop-pin-preserved : goal.loop-pin-preserved
loop-pin-preserved c = AddsReaders-more _ _ _ c.args.pins.now c.loop-pin.pin-index c.args.gate c.loop-pin-test.true c.loop-pin.invariant c.in_ok-add_reader.ensures

use Rattle.std.proofs.Common.{take}
use Rattle.bench_net.specs.Sorting.{AddsReaders}
use Rattle.bench_net.proofs.order.add_readers.Given as goal

abbrev pub invariant-loop-pin : goal.invariant-loop-pin
invariant-loop-pin l = AddsReaders l.fn.readers.items l.readers.items
    (take l.pin-index l.pins) l.fn.gate

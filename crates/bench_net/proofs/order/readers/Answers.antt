use Rattle.std.proofs.Common.{subst, arith, List, ℕ}
use Rattle.bench_net.specs.Sorting.{AddsReaders}
use Rattle.bench_net.proofs.ReaderLemmas.{ReadersBelow-more, ReadersBelow-all}
use Rattle.bench_net.proofs.order.readers.Goals as goal

pub loop-gate-preserved : goal.loop-gate-preserved
loop-gate-preserved c =
    ReadersBelow-more c.args.drivers.now c.loop-gate.readers.items c.add_readers.new.readers.items c.loop-gate.gate c.loop-gate.invariant
    (subst (λ (ps : List ℕ). AddsReaders c.loop-gate.readers.items c.add_readers.new.readers.items ps c.loop-gate.gate) c.pins_at.ensures c.in_ok-add_readers.ensures)

pub returns : goal.returns
returns c = ReadersBelow-all c.args.drivers.now c.loop-gate.readers.items c.loop-gate.gate
    (omega arith) c.loop-gate.invariant

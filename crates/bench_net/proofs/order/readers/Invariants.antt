use Rattle.bench_net.proofs.ReaderLemmas.{ReadersBelow}
use Rattle.bench_net.proofs.order.readers.Given as goal

abbrev pub invariant-loop-gate : goal.invariant-loop-gate
invariant-loop-gate l = ReadersBelow l.fn.drivers l.readers.items l.gate

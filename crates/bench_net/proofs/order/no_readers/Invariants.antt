use Rattle.std.proofs.Common.{◌≡◌, replicate, [], List, ℕ}
use Rattle.bench_net.proofs.order.no_readers.Given as goal

abbrev pub invariant-loop : goal.invariant-loop
invariant-loop l = l.readers.items ≡ replicate {A = List ℕ} l.counter []

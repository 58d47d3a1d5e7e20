use Rattle.std.proofs.Common.{◌≡◌, replicate}
use Rattle.bench_net.specs.declared.gate.Driver.TheVariants.{Input}
use Rattle.bench_net.proofs.table.inputs.Given as goal

abbrev pub invariant-loop : goal.invariant-loop
invariant-loop l = l.drivers.items ≡ replicate l.counter Input

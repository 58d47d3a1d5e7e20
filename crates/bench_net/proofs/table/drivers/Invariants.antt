use Rattle.std.proofs.Common.{◌≡◌, length, replicate}
use Rattle.bench_net.specs.declared.gate.Driver.TheVariants.{Input}
use Rattle.bench_net.specs.Numbers.{placed}
use Rattle.bench_net.proofs.table.drivers.Given as goal

abbrev pub invariant-loop-line : goal.invariant-loop-line
invariant-loop-line l = placed l.drivers.items l.lines.items ≡ placed (replicate l.count Input) l.initial.lines.items

abbrev pub decreases-loop-line : goal.decreases-loop-line
decreases-loop-line l = length l.lines.items

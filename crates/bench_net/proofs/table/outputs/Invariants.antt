use Rattle.std.proofs.Common.{◌≡◌, false, length, map, replicate}
use Rattle.std.specs.List.{fold}
use Rattle.bench_net.specs.Numbers.{shown_net, with_mark}
use Rattle.bench_net.proofs.table.outputs.Given as goal

abbrev pub invariant-loop-rest : goal.invariant-loop-rest
invariant-loop-rest l = fold with_mark l.outputs.items (map shown_net l.rest)
    ≡ fold with_mark (replicate l.count false) (map shown_net l.fn.lines)

abbrev pub decreases-loop-rest : goal.decreases-loop-rest
decreases-loop-rest l = length l.rest

use Rattle.std.proofs.Common.{◌≡◌, false, length, map, replicate}
use Rattle.std.specs.List.{fold}
use Rattle.bench_net.specs.Numbers.{driven_net, with_mark, first_twice}
use Rattle.bench_net.proofs.table.driven_nets.Given as goal

abbrev pub invariant-loop-rest : goal.invariant-loop-rest
invariant-loop-rest l = record {
  marks : fold with_mark l.driven.items (map driven_net l.rest)
      ≡ fold with_mark (replicate (length l.fn.names.keys) false) (map driven_net l.fn.lines);
  twice : first_twice l.driven.items (map driven_net l.rest)
      ≡ first_twice (replicate (length l.fn.names.keys) false) (map driven_net l.fn.lines);
}

abbrev pub decreases-loop-rest : goal.decreases-loop-rest
decreases-loop-rest l = length l.rest

use Rattle.std.proofs.Common.{◌≡◌, ◌+◌, length}
use Rattle.bench_net.specs.Step.{name_len}
use Rattle.bench_net.proofs.line.name_len.Given as goal

abbrev pub invariant-loop-rest : goal.invariant-loop-rest
invariant-loop-rest l = record {
  count : l.len + name_len l.rest ≡ name_len l.fn.text;
  within : l.len + length l.rest ≡ length l.fn.text;
}

abbrev pub decreases-loop-rest : goal.decreases-loop-rest
decreases-loop-rest l = length l.rest

use Rattle.std.proofs.Common.{◌+◌, ◌≤◌, length, map, vec_len}
use Rattle.bench_net.specs.Views.{form_of}
use Rattle.bench_net.proofs.TextLemmas.{Reading}
use Rattle.bench_net.proofs.text.read_lines.Given as goal

abbrev pub invariant-loop-rest : goal.invariant-loop-rest
invariant-loop-rest l = record {
  lines : Reading l.fn.bytes (map form_of l.read.items) l.rest;
  few : vec_len l.read + length l.rest ≤ length l.fn.bytes;
}

abbrev pub decreases-loop-rest : goal.decreases-loop-rest
decreases-loop-rest l = length l.rest

use Rattle.std.proofs.Common.{◌≡◌, ◌≤◌, ◌++◌, length, map}
use Rattle.std.specs.List.{fold, flat_map}
use Rattle.text_bytes.specs.Limits.{most_nets}
use Rattle.text_bytes.specs.Texts.{added, key_texts}
use Rattle.bench_net.specs.Net.{named, names}
use Rattle.bench_net.specs.Numbers.{numbered}
use Rattle.bench_net.specs.Views.{form_of}
use Rattle.bench_net.proofs.numbers.numbered_lines.Given as goal

abbrev pub invariant-loop-rest : goal.invariant-loop-rest
invariant-loop-rest l = record {
  keys : fold added (key_texts l.names.keys) (flat_map named (map form_of l.rest)) ≡ names (map form_of l.fn.lines);
  lines : length (names (map form_of l.fn.lines)) ≤ most_nets
      → l.said.items ++ map (numbered (names (map form_of l.fn.lines))) (map form_of l.rest)
      ≡ map (numbered (names (map form_of l.fn.lines))) (map form_of l.fn.lines);
}

abbrev pub decreases-loop-rest : goal.decreases-loop-rest
decreases-loop-rest l = length l.rest

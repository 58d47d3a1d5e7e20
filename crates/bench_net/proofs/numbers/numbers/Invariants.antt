use Rattle.std.proofs.Common.{◌≡◌, ◌++◌, ℕ, List, length}
use Rattle.std.specs.List.{fold}
use Rattle.text_bytes.specs.Texts.{added, key_texts}
use Rattle.bench_net.specs.Numbers.{AreNumbers}
use Rattle.bench_net.specs.Views.{texts}
use Rattle.bench_net.proofs.numbers.numbers.Given as goal

abbrev pub invariant-loop-rest : goal.invariant-loop-rest
invariant-loop-rest l = record {
  names : fold added (key_texts l.names.keys) (texts l.rest) ≡ fold added (key_texts l.fn.names.keys) (texts l.fn.pins);
  numbers : (ns : List ℕ) → AreNumbers (key_texts l.names.keys) (texts l.rest) ns
      → AreNumbers (key_texts l.fn.names.keys) (texts l.fn.pins) (l.nets.items ++ ns);
}

abbrev pub decreases-loop-rest : goal.decreases-loop-rest
decreases-loop-rest l = length l.rest

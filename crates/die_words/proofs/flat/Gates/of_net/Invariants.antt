use Rattle.std.proofs.Common.{◌≤◌, ◌*◌, length}
use Rattle.text_bytes.specs.Limits.{most_inputs}
use Rattle.die_words.specs.Flat.{AreFlatTo}
use Rattle.die_words.proofs.flat.Gates.of_net.Given as goal

abbrev pub invariant-loop-gate : goal.invariant-loop-gate
invariant-loop-gate l = record {
  flat : AreFlatTo l.net l.gates.items l.pins.items l.gate-index;
  few : length l.pins.items ≤ most_inputs * l.gate-index;
}

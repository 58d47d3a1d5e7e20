use Rattle.std.proofs.Common.{◌≡◌, true, take}
use Rattle.std.specs.List.{list_all}
use Rattle.flat_parts.specs.FlatText.{is_plain}
use Rattle.flat_stil.proofs.names.are_plain.Given as goal

abbrev pub invariant-loop-signal : goal.invariant-loop-signal
invariant-loop-signal l = list_all (λ signal. is_plain signal.name) (take l.signal-index l.signals) ≡ true

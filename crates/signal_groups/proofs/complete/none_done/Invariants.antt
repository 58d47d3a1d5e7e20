use Rattle.std.proofs.Common.{◌≡◌, false}
use Rattle.std.specs.Prelude.{replicate}
use Rattle.signal_groups.proofs.complete.none_done.Given as goal

abbrev pub invariant-loop : goal.invariant-loop
invariant-loop l = l.done.items ≡ replicate l.counter false

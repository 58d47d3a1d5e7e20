use Rattle.std.proofs.Common.{◌≡◌, List, ℕ, []}
use Rattle.std.specs.Prelude.{replicate}
use Rattle.signal_groups.proofs.begin.no_members.Given as goal

abbrev pub invariant-loop : goal.invariant-loop
invariant-loop l = l.members.items ≡ replicate {A = List ℕ} l.counter []

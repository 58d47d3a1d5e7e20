use Rattle.std.proofs.Common.{◌≡◌, [], length, All}
use Rattle.plan_rows.proofs.tally.no_names.Given as goal

abbrev pub invariant-loop : goal.invariant-loop
invariant-loop l = record { sites : length l.names.items ≡ l.counter; none : All (λ s. s.keys ≡ []) l.names.items }

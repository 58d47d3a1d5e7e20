use Rattle.std.proofs.Common.{◌≡◌, ℕ, map}
use Rattle.std.specs.List.{range_with_len}
use Rattle.plan_rows.specs.Judging.{names_at}
use Rattle.plan_parts.specs.Cut.{site_at}
use Rattle.log_parts.specs.Slices.{lent_sites}
use Rattle.lot_parts.proofs.names.names_in.Given as goal

-- the names of the sites so far
abbrev pub invariant-loop-number : goal.invariant-loop-number
invariant-loop-number l =
    lent_sites l.names.items ≡ map (λ (n : ℕ). names_at (site_at l.of.parts l.of.part l.rows n) l.rows) (range_with_len 0 l.number)

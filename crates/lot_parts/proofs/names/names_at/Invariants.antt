use Rattle.std.proofs.Common.{◌≡◌}
use Rattle.std.proofs.Math.ListN.{take}
use Rattle.plan_rows.specs.Judging.{names_at}
use Rattle.log_parts.specs.Slices.{lent}
use Rattle.lot_parts.proofs.names.names_at.Given as goal

-- the names so far
abbrev pub invariant-loop-row : goal.invariant-loop-row
invariant-loop-row l = lent l.names.items ≡ names_at l.site (take l.row-index l.rows)

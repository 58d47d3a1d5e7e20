use Rattle.std.proofs.Common.{◌≡◌, ◌==◌, ◌++◌, drop, filter}
use Rattle.text_bytes.specs.Texts.{behind}
use Rattle.lot_plan.proofs.skews.rows_at.Given as goal

abbrev pub invariant-loop-row : goal.invariant-loop-row
invariant-loop-row l =
    behind l.found.items ++ filter (λ k. k.site == l.site) (behind (drop l.row-index l.rows)) ≡ filter (λ k. k.site == l.site) (behind l.rows)

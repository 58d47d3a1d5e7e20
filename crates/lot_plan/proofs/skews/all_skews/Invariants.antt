use Rattle.std.proofs.Common.{◌≡◌, map}
use Rattle.std.specs.List.{range_with_len}
use Rattle.plan_rows.specs.Rows.{skews_at}
use Rattle.lot_plan.specs.Skews.{skews_of}
use Rattle.lot_plan.proofs.skews.all_skews.Given as goal

abbrev pub invariant-loop-site : goal.invariant-loop-site
invariant-loop-site l = l.all.items ≡ map (λ site. skews_of l.signals (skews_at site l.rows)) (range_with_len 0 l.site)

use Rattle.std.proofs.Common.{◌≡◌, ◌<◌, ℕ, length, map}
use Rattle.std.specs.Arc.{arc_value}
use Rattle.lot_plan.specs.Building.{IsSiteBuilt}
use Rattle.lot_plan.specs.Groups.{group_at}
use Rattle.lot_plan.specs.Stored.{stored_in}
use Rattle.lot_plan.proofs.building.dies_of.Given as goal

abbrev pub invariant-loop-site : goal.invariant-loop-site
invariant-loop-site l = record {
  count : length l.dies.items ≡ l.site-index;
  each : (s : ℕ) → s < l.site-index →
      IsSiteBuilt (map arc_value l.nets) (map arc_value l.bindings) l.tries (group_at l.sites s) (stored_in l.dies.items s);
}

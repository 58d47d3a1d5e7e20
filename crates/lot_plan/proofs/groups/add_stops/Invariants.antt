use Rattle.std.proofs.Common.{◌≡◌, drop}
use Rattle.std.specs.Prelude.{fold}
use Rattle.lot_plan.specs.Groups.{put_stop, HasShape}
use Rattle.lot_plan.proofs.groups.add_stops.Given as goal

abbrev pub invariant-loop-stop : goal.invariant-loop-stop
invariant-loop-stop l = record {
  shape : HasShape l.fn.sites.items l.sites.items;
  all : fold put_stop l.sites.items (drop l.stop-index l.stops) ≡ fold put_stop l.fn.sites.items l.stops;
}

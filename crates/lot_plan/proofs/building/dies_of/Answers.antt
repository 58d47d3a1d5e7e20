use Rattle.std.proofs.Common.{map}
use Rattle.std.specs.Arc.{arc_value}
use Rattle.lot_plan.proofs.BuildLemmas.{site-ready-now}
use Rattle.lot_plan.proofs.building.dies_of.Goals as goal

pub site_dies-requires : goal.site_dies-requires
site_dies-requires c = rw c.as_slice.ensures
    (site-ready-now (map arc_value c.args.nets.now) (map arc_value c.args.bindings.now) c.args.sites.now
    c.loop-site.site-index c.site-item.result
    c.requires c.loop-site-test.true c.site-item.is)

use Rattle.std.proofs.Common.{◌∷◌, [], map, length, length-append, arith, ◌∙◌, ap}
use Rattle.std.specs.Arc.{arc_value}
use Rattle.lot_plan.proofs.BuildLemmas.{ready-now, built-more}
use Rattle.lot_plan.proofs.building.site_dies.Goals as goal

pub die_of-requires : goal.die_of-requires
die_of-requires c =
    ready-now (map arc_value c.args.nets.now) (map arc_value c.args.bindings.now) c.args.site.now c.loop-group.group-index
    c.group-item.result c.requires c.loop-group-test.true c.group-item.is

pub loop-group-preserved : goal.loop-group-preserved
loop-group-preserved c = record {
  count = ap length c.in_ok-push.ensures.items
      ∙ omega (arith, length-append c.loop-group.dies.items (c.in_ok-die_of.field-0 ∷ []), c.loop-group.invariant.count);
  each = built-more (map arc_value c.args.nets.now) (map arc_value c.args.bindings.now) c.args.tries c.args.site.now
      c.loop-group.dies.items c.push.new.self.items c.loop-group.group-index c.group-item.result c.in_ok-die_of.field-0
      c.loop-group.invariant.count c.in_ok-push.ensures.items c.loop-group-test.true c.group-item.is
      c.loop-group.invariant.each c.in_ok-die_of.ensures;
}

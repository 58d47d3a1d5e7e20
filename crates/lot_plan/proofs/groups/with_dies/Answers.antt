use Rattle.std.proofs.Common.{◌<◌, arith}
use Rattle.plan_rows.specs.declared.row.DieRow.{DieRow}
use Rattle.lot_plan.proofs.NameLemmas.{each-behind}
use Rattle.lot_plan.proofs.groups.with_dies.Goals as goal

pub add_die-requires : goal.add_die-requires
add_die-requires c =
    let h : c.die-item.result.now.site < c.args.sites = each-behind (λ (d : DieRow). d.site < c.args.sites) c.args.dies.now
    c.loop-die.die-index
    c.die-item.result c.requires c.loop-die-test.true c.die-item.is in
    omega (arith, h, c.loop-die.invariant.count)

use Rattle.std.proofs.Common.{ap, ◌∙◌}
use Rattle.text_bytes.specs.Texts.{behind}
use Rattle.bench_net.specs.Views.{texts}
use Rattle.lot_plan.proofs.GroupLemmas.{dies-below, is-with_dies, is-with_faults, faults-there-in, stops-there-in, are-groups-in}
use Rattle.lot_plan.proofs.groups.groups_of.Goals as goal

pub with_dies-requires : goal.with_dies-requires
with_dies-requires c = rw (c.requires.dies, c.requires.sites) (dies-below c.args.rows.now)

pub add_faults-requires : goal.add_faults-requires
add_faults-requires c =
    faults-there-in c.args.rows.now c.in_ok-made.made.items (behind c.deref.result.now) c.requires.kept
    (is-with_dies c.args.rows.now (texts c.args.files.now.keys) (behind c.args.dies.now) c.args.sites c.in_ok-made.made.items
    c.requires.files c.requires.dies c.requires.sites c.in_ok-made.ensures)
    (ap behind c.deref.ensures.value ∙ c.in_ok-faults.ensures)

pub add_stops-requires : goal.add_stops-requires
add_stops-requires c =
    stops-there-in c.args.rows.now c.add_faults.new.sites.items c.deref-2.result.now c.requires.kept
    (is-with_faults c.args.rows.now (behind c.deref.result.now) c.in_ok-made.made.items c.add_faults.new.sites.items
    (is-with_dies c.args.rows.now (texts c.args.files.now.keys) (behind c.args.dies.now) c.args.sites c.in_ok-made.made.items
    c.requires.files c.requires.dies c.requires.sites c.in_ok-made.ensures)
    (ap behind c.deref.ensures.value ∙ c.in_ok-faults.ensures) c.in_ok-add_faults.ensures.all)
    (c.deref-2.ensures.value ∙ c.in_ok-stops.ensures)

pub returns : goal.returns
returns c =
    are-groups-in c.args.rows.now c.deref-2.result.now c.add_faults.new.sites.items c.add_stops.new.sites.items c.requires.kept
    (is-with_faults c.args.rows.now (behind c.deref.result.now) c.in_ok-made.made.items c.add_faults.new.sites.items
    (is-with_dies c.args.rows.now (texts c.args.files.now.keys) (behind c.args.dies.now) c.args.sites c.in_ok-made.made.items
    c.requires.files c.requires.dies c.requires.sites c.in_ok-made.ensures)
    (ap behind c.deref.ensures.value ∙ c.in_ok-faults.ensures) c.in_ok-add_faults.ensures.all)
    (c.deref-2.ensures.value ∙ c.in_ok-stops.ensures) c.in_ok-add_stops.ensures

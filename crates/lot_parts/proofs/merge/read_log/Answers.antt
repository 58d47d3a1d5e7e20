use Rattle.lot_parts.proofs.NameLemmas.{part_names}
use Rattle.lot_parts.proofs.MergeLemmas.{read_so, one_line_so}
use Rattle.lot_parts.proofs.merge.read_log.Goals as goal

pub read-requires : goal.read-requires
read-requires c =
    one_line_so c.args.rows.now c.args.of.parts c.args.of.part c.as_slice.result.now c.in-Ok.names.items c.as_slice.ensures.value c.in-Ok.ensures
    (part_names c.requires.plan.0 c.args.rows.now c.args.of.parts c.args.of.part c.requires.plan.1)

pub returns : goal.returns
returns c =
    read_so c.args.rows.now c.args.of.parts c.args.of.part c.as_slice.result.now c.in-Ok.names.items c.args.text.now c.read.result
    c.as_slice.ensures.value c.in-Ok.ensures c.read.ensures.found c.read.ensures.fault

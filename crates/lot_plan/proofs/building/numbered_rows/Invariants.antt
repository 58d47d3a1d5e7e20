use Rattle.std.proofs.Common.{◌≡◌, ◌++◌, map, drop}
use Rattle.text_bytes.specs.Texts.{behind}
use Rattle.lot_plan.specs.Bound.{numbered}
use Rattle.lot_plan.proofs.building.numbered_rows.Given as goal

abbrev pub invariant-loop-row : goal.invariant-loop-row
invariant-loop-row l = l.faults.items ++ map (numbered l.net) (behind (drop l.row-index l.rows)) ≡ map (numbered l.net)
    (behind l.rows)

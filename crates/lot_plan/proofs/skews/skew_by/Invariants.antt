use Rattle.std.proofs.Common.{◌≡◌, drop}
use Rattle.text_bytes.specs.Texts.{behind}
use Rattle.lot_plan.specs.Skews.{skew_by}
use Rattle.lot_plan.proofs.skews.skew_by.Given as goal

abbrev pub invariant-loop-row : goal.invariant-loop-row
invariant-loop-row l = skew_by (behind (drop l.row-index l.rows)) l.name ≡ skew_by (behind l.rows) l.name

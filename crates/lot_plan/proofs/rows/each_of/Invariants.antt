use Rattle.std.proofs.Common.{◌≡◌, ◌++◌, drop}
use Rattle.text_bytes.specs.Texts.{behind}
use Rattle.plan_rows.specs.Rows.{each_of}
use Rattle.lot_plan.proofs.rows.each_of.Given as goal

abbrev pub invariant-loop-row : goal.invariant-loop-row
invariant-loop-row g l = behind l.found.items ++ each_of g.K.Kind.said (drop l.row-index l.rows) ≡ each_of g.K.Kind.said l.rows

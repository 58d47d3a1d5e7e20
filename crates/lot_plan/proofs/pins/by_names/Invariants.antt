use Rattle.std.proofs.Common.{◌≡◌, ℕ, List, drop}
use Rattle.std.specs.List.{find}
use Rattle.std.specs.Option.{option_or}
use Rattle.std.specs.Str.{bytes_eq}
use Rattle.text_bytes.specs.Texts.{behind}
use Rattle.plan_rows.specs.declared.row.BindRow.{BindRow}
use Rattle.lot_plan.specs.Views.{row_in}
use Rattle.lot_plan.proofs.pins.by_names.Given as goal

abbrev pub invariant-loop-row : goal.invariant-loop-row
invariant-loop-row l = (name : List ℕ) →
    option_or (row_in l.found name) (find (λ (b : BindRow). bytes_eq name b.signal) (behind (drop l.row-index l.rows)))
    ≡ find (λ (b : BindRow). bytes_eq name b.signal) (behind l.rows)

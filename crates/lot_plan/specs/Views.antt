-- The code's parts without where they lie in memory.
use Rattle.std.specs.Prelude.{ℕ, Option, List}
use Rattle.std.specs.Borrow.{Bor}
use Rattle.std.specs.Option.{option_copied}
use Rattle.lot_plan.specs.declared.pin.Pin.{Pin}
use Rattle.std.specs.Str.{bytes_eq}
use Rattle.indexmap.specs.IndexMap.{IndexMap, get_by}
use Rattle.plan_rows.specs.declared.row.BindRow.{BindRow}
use Rattle.lot_plan.specs.Needs.{PinNeed}

-- what a pin needs
abbrev pub needed_by : Pin → PinNeed
needed_by p = record { name = p.name.now; role = p.role; net = option_copied p.net }

-- the row that is stored for a name
abbrev pub row_in : {S : Type 0} → IndexMap (Bor (List ℕ)) (Bor BindRow) S → List ℕ → Option BindRow
row_in rows name = option_copied (get_by (λ k. bytes_eq name k.now) rows)

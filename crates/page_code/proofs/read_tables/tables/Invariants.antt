use Rattle.std.proofs.Common.{◌≡◌, ◌-◌, ◌^◌, []}
use Rattle.page_code.specs.Fields.{items_at}
use Rattle.page_code.specs.Reading.{table_at}
use Rattle.packed_code.specs.Conditions.{wave_count}
use Rattle.page_code.proofs.read_tables.tables.Given as goal

abbrev pub invariant-loop : goal.invariant-loop
invariant-loop l = (items_at (table_at l.signals) (l.count - l.counter) l.tables.items l.rest ≡ items_at (table_at l.signals) l.count [] l.bytes)
    × (l.room ≡ 2 ^ 20 - wave_count l.tables.items)

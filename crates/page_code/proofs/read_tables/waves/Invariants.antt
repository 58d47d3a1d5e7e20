use Rattle.std.proofs.Common.{◌≡◌, ◌-◌, []}
use Rattle.page_code.specs.Fields.{items_at}
use Rattle.page_code.specs.Reading.{wave_at}
use Rattle.page_code.proofs.read_tables.waves.Given as goal

abbrev pub invariant-loop : goal.invariant-loop
invariant-loop l = items_at (wave_at l.signals l.period l.most) (l.count - l.counter) l.waves.items l.rest ≡ items_at (wave_at l.signals l.period l.most) l.count [] l.bytes

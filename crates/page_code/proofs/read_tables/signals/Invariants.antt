use Rattle.std.proofs.Common.{◌≡◌, ◌-◌, []}
use Rattle.page_code.specs.Fields.{items_at}
use Rattle.page_code.specs.Reading.{signal_at}
use Rattle.page_code.proofs.read_tables.signals.Given as goal

abbrev pub invariant-loop : goal.invariant-loop
invariant-loop l = items_at signal_at (l.count - l.counter) l.signals.items l.rest ≡ items_at signal_at l.count [] l.bytes

use Rattle.std.proofs.Common.{◌≡◌, ◌-◌, []}
use Rattle.page_code.specs.Fields.{items_at}
use Rattle.page_code.specs.Reading.{event_at}
use Rattle.page_code.proofs.read_tables.events.Given as goal

abbrev pub invariant-loop : goal.invariant-loop
invariant-loop l = items_at (event_at l.period) (l.count - l.counter) l.events.items l.rest ≡ items_at (event_at l.period) l.count [] l.bytes

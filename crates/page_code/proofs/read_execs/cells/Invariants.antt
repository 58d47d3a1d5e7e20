use Rattle.std.proofs.Common.{◌≡◌, ◌-◌, []}
use Rattle.page_code.specs.Fields.{items_at}
use Rattle.page_code.specs.Reading.{name_at}
use Rattle.page_code.proofs.read_execs.cells.Given as goal

abbrev pub invariant-loop : goal.invariant-loop
invariant-loop l = items_at (λ before. name_at) (l.count - l.counter) l.cells.items l.rest ≡ items_at (λ before. name_at) l.count [] l.bytes

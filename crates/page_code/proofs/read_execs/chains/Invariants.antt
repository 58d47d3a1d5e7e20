use Rattle.std.proofs.Common.{◌≡◌, ◌-◌, []}
use Rattle.page_code.specs.Fields.{items_at}
use Rattle.page_code.specs.Reading.{chain_at}
use Rattle.page_code.proofs.read_execs.chains.Given as goal

abbrev pub invariant-loop : goal.invariant-loop
invariant-loop l = items_at (λ before. chain_at l.signals) (l.count - l.counter) l.chains.items l.rest ≡ items_at (λ before. chain_at l.signals) l.count [] l.bytes

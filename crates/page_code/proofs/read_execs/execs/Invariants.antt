use Rattle.std.proofs.Common.{◌≡◌, ◌-◌, []}
use Rattle.page_code.specs.Accepted.{AreAccepted}
use Rattle.page_code.specs.Fields.{items_at}
use Rattle.page_code.specs.Reading.{exec_at}
use Rattle.page_code.proofs.read_execs.execs.Given as goal

abbrev pub invariant-loop : goal.invariant-loop
invariant-loop l = record {
  so_far : items_at (λ before. exec_at l.signals l.tables l.rows) (l.count - l.counter) l.execs.items l.rest ≡ items_at (λ before. exec_at l.signals l.tables l.rows) l.count [] l.bytes;
  accepted : AreAccepted l.tables l.rows l.accepted;
}

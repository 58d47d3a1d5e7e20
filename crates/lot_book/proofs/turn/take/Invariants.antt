use Rattle.std.proofs.Common.{◌≡◌}
use Rattle.lot_book.proofs.turn.take.Given as goal

abbrev pub invariant-loop : goal.invariant-loop
invariant-loop g l = record {
  book : l.seat.table_id ≡ l.initial.seat.table_id;
  same : l.seat.me ≡ l.initial.seat.me;
}

use Rattle.std.proofs.Common.{◌≡◌}
use Rattle.pattern_mem.proofs.turn.take.Given as goal

abbrev pub invariant-loop : goal.invariant-loop
invariant-loop g l = record {
  memory : l.seat.table_id ≡ l.initial.seat.table_id;
  same : l.seat.me ≡ l.initial.seat.me;
}

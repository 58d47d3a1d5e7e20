use Rattle.std.proofs.Common.{◌≡◌}
use Rattle.tests_calls.proofs.board_calls.poll_until_asked.Given as goal

abbrev pub invariant-loop : goal.invariant-loop
invariant-loop l = record {
  board : l.seat.board ≡ l.initial.seat.board;
  finished : l.seat.finished ≡ l.initial.seat.finished;
}

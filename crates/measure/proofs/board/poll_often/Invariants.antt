use Rattle.std.proofs.Common.{◌≡◌}
use Rattle.measure.proofs.board.poll_often.Given as goal

abbrev pub invariant-loop : goal.invariant-loop
invariant-loop l = l.seat.board ≡ l.initial.seat.board

use Rattle.std.proofs.Common.{◌≡◌}
use Rattle.measure.proofs.board.look_often.Given as goal

abbrev pub invariant-loop : goal.invariant-loop
invariant-loop l = l.desk.board ≡ l.initial.desk.board

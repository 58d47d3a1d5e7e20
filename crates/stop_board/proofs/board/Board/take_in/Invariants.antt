use Rattle.std.proofs.Common.{◌≡◌, All}
use Rattle.stop_board.specs.Rule.{as_desk}
use Rattle.stop_board.specs.Seats.{after_return, IsDeskSeat}
use Rattle.stop_board.proofs.board.Board.take_in.Given as goal

abbrev pub invariant-loop-seat : goal.invariant-loop-seat
invariant-loop-seat l = record {
  can_go : (goal.iterator-loop-seat).can_next l.seat-iterator;
  ends : (goal.iterator-loop-seat).is_finite l.seat-iterator;
  board : l.desk.table_id ≡ l.self;
  is : IsDeskSeat l.desk.me;
  taken : as_desk l.desk.me.0 ≡ after_return (as_desk l.initial.desk.me.0) l.yielded;
  left : All (λ s. s.board ≡ l.self) l.seat-iterator.rest.items;
}

use Rattle.std.proofs.Common.{◌≡◌, []}
use Rattle.stop_board.specs.Seats.{new_seats, made_desk}
use Rattle.stop_board.proofs.board.Board.seats.Given as goal

abbrev pub invariant-loop-site : goal.invariant-loop-site
invariant-loop-site l = record {
  board : l.desk.table_id ≡ l.self;
  desk : l.desk.me ≡ (made_desk l.site, []);
  made : l.seats.items ≡ new_seats l.self l.site;
}

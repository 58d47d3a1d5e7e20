use Rattle.std.proofs.Common.{rules}
use Rattle.stop_board.proofs.StepLemmas.{looks}
use Rattle.stop_board.proofs.seats.DeskSeat.finished.Goals as goal

pub load-requires : goal.load-requires
load-requires c = (search rules, search rules, looks _ _ _ c.self.invariant)

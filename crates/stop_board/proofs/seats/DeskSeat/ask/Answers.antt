use Rattle.std.proofs.Common.{rules}
use Rattle.stop_board.proofs.StepLemmas.{asks}
use Rattle.stop_board.proofs.seats.DeskSeat.ask.Goals as goal

pub fetch_add-requires : goal.fetch_add-requires
fetch_add-requires c = (search rules, search rules, asks _ _ _ _ c.self.invariant (search rules) (search rules))

use Rattle.std.proofs.Common.{rules}
use Rattle.stop_board.proofs.StepLemmas.{polls}
use Rattle.stop_board.proofs.seats.SiteSeat.poll.Goals as goal

pub load-requires : goal.load-requires
load-requires c = (search rules, search rules, polls _ _ _ _ c.self.invariant)

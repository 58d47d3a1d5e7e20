use Rattle.std.proofs.Common.{rules}
use Rattle.stop_board.proofs.StepLemmas.{finishes}
use Rattle.stop_board.proofs.seats.SiteSeat.finish.Goals as goal

pub fetch_add-requires : goal.fetch_add-requires
fetch_add-requires c = (search rules, search rules, finishes _ _ _ _ c.self.invariant (search rules))

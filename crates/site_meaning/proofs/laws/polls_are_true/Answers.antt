use Rattle.site_meaning.proofs.SeatLemmas.{polls_are_true}
use Rattle.site_meaning.proofs.laws.polls_are_true.Goals as goal

pub returns : goal.returns
returns c = polls_are_true

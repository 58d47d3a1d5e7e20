use Rattle.site_run.proofs.SoFarLemmas.{polls_are_taped}
use Rattle.site_run.proofs.laws.polls_are_taped.Goals as goal

pub returns : goal.returns
returns c = polls_are_taped

use Rattle.strobe_check.proofs.AgreeLemmas.{agree-alike}
use Rattle.strobe_check.proofs.laws.sensed_levels_decide.Goals as goal

pub returns : goal.returns
returns c = agree-alike

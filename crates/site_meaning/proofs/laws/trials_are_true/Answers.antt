use Rattle.site_meaning.proofs.EndLemmas.{true_trial}
use Rattle.site_meaning.proofs.laws.trials_are_true.Goals as goal

pub returns : goal.returns
returns c = true_trial

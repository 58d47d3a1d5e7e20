use Rattle.site_meaning.proofs.RiseLemmas.{played_rises}
use Rattle.site_meaning.proofs.laws.moments_rise.Goals as goal

pub returns : goal.returns
returns c = played_rises

use Rattle.site_meaning.proofs.CountLemmas.{poll_counts}
use Rattle.site_meaning.proofs.laws.polls_are_counted.Goals as goal

pub returns : goal.returns
returns c = poll_counts

use Rattle.site_run.proofs.ContactLemmas.{lost_in_batch}
use Rattle.site_run.proofs.laws.contacts_are_in_batches.Goals as goal

pub returns : goal.returns
returns c = lost_in_batch

use Rattle.site_meaning.proofs.StepsLemmas.{goes_through_these, entries_are}
use Rattle.site_meaning.proofs.laws.played_states_are_steps.Goals as goal

pub returns-clause-states : goal.returns-clause-states
returns-clause-states c = goes_through_these

pub returns-clause-entries : goal.returns-clause-entries
returns-clause-entries c = entries_are

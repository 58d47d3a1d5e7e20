use Rattle.floor_core.proofs.JournalLemmas.{is_journal, polls_well}
use Rattle.floor_core.proofs.laws.records_law.Goals as goal

pub returns : goal.returns
returns c world program bound events = is_journal world (polls_well world.plan program bound) events

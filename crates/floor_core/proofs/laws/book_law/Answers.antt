use Rattle.floor_core.proofs.HistoryLemmas.{everywhere}
use Rattle.floor_core.proofs.JournalLemmas.{polls_well}
use Rattle.floor_core.proofs.FilingLemmas.{keeps_journal}
use Rattle.floor_core.proofs.laws.book_law.Goals as goal

pub returns : goal.returns
returns c world program bound events = keeps_journal world events (everywhere world (polls_well world.plan program bound) events)

use Rattle.floor_core.proofs.HistoryLemmas.{everywhere}
use Rattle.floor_core.proofs.JournalLemmas.{is_journal, polls_well}
use Rattle.floor_core.proofs.TotalLemmas.{totals_are_counts}
use Rattle.floor_core.proofs.laws.totals_law.Goals as goal

pub returns : goal.returns
returns c world program bound events =
    let well = polls_well world.plan program bound in
    totals_are_counts world events (everywhere world well events) (is_journal world well events)

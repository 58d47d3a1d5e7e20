use Rattle.std.proofs.Common.{◌∙◌, ap, sym}
use Rattle.site_meaning.specs.Polls.{ends, ended_now}
use Rattle.site_run.specs.Seat.{running_of}
use Rattle.site_run.proofs.trial.outcome_of.Goals as goal

pub returns-in-Ends-clause-on : goal.returns-in-Ends-clause-on
returns-in-Ends-clause-on c = λ told step apart is.
    let moved = rw c.in-Ends.is at is in
    moved ∙ ap (λ v. ends (ended_now c.args.number (running_of told c.args.run) v)) (sym c.in-Ends.verdict-is)
    ∙ ap ends (sym (c.ended.ensures told))

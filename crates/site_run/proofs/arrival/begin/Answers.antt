use Rattle.std.proofs.Common.{◌∙◌, ap, sym}
use Rattle.site_meaning.specs.Polls.{Running, ends, onward}
use Rattle.site_run.proofs.ArrivalLemmas.{ended_fresh}
use Rattle.site_run.proofs.arrival.begin.Goals as goal

pub returns-in-Ok-Ends-clause-polled : goal.returns-in-Ok-Ends-clause-polled
returns-in-Ok-Ends-clause-polled c = λ part die number told is device loaded.
    let fresh = c.in-Ok.ensures.fresh part die number told device loaded in
    let polled = rw c.in-Ok-Ends.field-0-is at c.in-Ok-Ends.ensures.polled in
    ap (λ (r : Running). onward part number r 0) (sym fresh) ∙ polled part number told is
    ∙ ap ends (ended_fresh part die number told c.in-Ok.run' c.onward.new.run c.in-Ok-Ends.verdict fresh c.onward.ensures.number c.onward.ensures.checker)

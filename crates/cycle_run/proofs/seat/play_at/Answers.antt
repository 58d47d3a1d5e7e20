use Rattle.std.proofs.Common.{rules}
use Rattle.cycle_run.proofs.seat.play_at.Goals as goal

pub returns-in-Ok-clause-ready : goal.returns-in-Ok-clause-ready
returns-in-Ok-clause-ready g c = λ more can.
    let same = c.in-Ok.ensures.plays.played.same in
    let now = c.in-Ok.ensures.ready more can in
    search rules

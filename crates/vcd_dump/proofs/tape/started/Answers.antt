use Rattle.std.proofs.Common.{sym, subst}
use Rattle.edge_gen.specs.Held.{Held}
use Rattle.die_sim.specs.Socket.{IsLoaded}
use Rattle.cycle_run.specs.Step.{HoldsSchedules}
use Rattle.cycle_run.specs.Setup.{code_in}
use Rattle.vcd_dump.specs.Recording.{Recording, recording_told}
use Rattle.vcd_dump.proofs.tape.started.Goals as goal

pub returns-clause-starts : goal.returns-clause-starts
returns-clause-starts c =
    let setup = c.args.setup.now in
    let die = c.in_ok-die.ensures in
    c.in_ok-at.ensures c.in_ok-schedules.schedules (recording_told c.in_ok-recorder.recorder)
    (subst (λ (h : Held). HoldsSchedules (code_in setup) setup.skews.now h) (sym c.in_ok-schedules.ensures) tt)
    (subst (λ (r : Recording). IsLoaded setup.image.now (recording_told r)) (sym c.in_ok-recorder.ensures)
    (record { loaded = die.loaded; fresh = die.fresh }))

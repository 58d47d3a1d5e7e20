use Rattle.std.proofs.Common.{◌∙◌, List, take, ap, sym, subst}
use Rattle.tester_types.specs.declared.cycle.Cycle.{Cycle}
use Rattle.packed_code.specs.Cycles.{cycles_of}
use Rattle.cycle_run.specs.Batch.{LosesContactIn}
use Rattle.cycle_run.specs.Setup.{code_in, stand_in}
use Rattle.vcd_dump.specs.declared.execs.Way.{Way}
use Rattle.vcd_dump.specs.Play.{stands_at}
use Rattle.vcd_dump.proofs.ExecLemmas.{lost_some}
use Rattle.vcd_dump.proofs.execs.play_some.Goals as goal

pub returns-in-Ok-clause-goes_on : goal.returns-in-Ok-clause-goes_on
returns-in-Ok-clause-goes_on c = λ whole more can. c.in-Ok.ensures.ready more can

pub returns-then-is_over-clause-plays : goal.returns-then-is_over-clause-plays
returns-then-is_over-clause-plays c =
    let setup = c.args.setup.now in
    let new : Way = record { at = c.play_at.new.at; schedules = c.play_at.new.schedules; recorder = c.play_at.new.socket } in
    let stops = rw c.in-Err-Contact.field-0-is at c.in-Err-Contact.ensures.stops in
    let lost = subst (λ (l : List Cycle). LosesContactIn (stand_in setup) c.args.exec l (stands_at c.args.way.now) (stands_at new) c.in-Err-Contact.field-0-0)
    (ap (take c.args.many) c.walk-walk.ensures.coming) stops.among in
    lost_some setup c.args.exec (take c.args.many (cycles_of (code_in setup) c.args.exec)) c.args.way.now new c.in-Err-Contact.field-0-0 lost
    (sym c.is_over.ensures ∙ c.if-is_over.true)

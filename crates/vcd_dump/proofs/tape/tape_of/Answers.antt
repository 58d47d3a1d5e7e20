use Rattle.std.proofs.Common.{◌≡◌, ◌∙◌, ◌<◌, ◌≤◌, Err, subst, sym}
use Rattle.std.specs.Prelude.{IfOk, OnOk}
use Rattle.packed_code.specs.Program.{Program}
use Rattle.packed_code.specs.Conditions.{IsProgram}
use Rattle.die_sim.specs.Socket.{Calls}
use Rattle.site_meaning.specs.Trials.{execs_of}
use Rattle.cycle_run.specs.Setup.{code_in, stand_in}
use Rattle.vcd_dump.specs.declared.fault.TapeFault.TheVariants as fault
use Rattle.vcd_text.specs.Sound.{IsSound}
use Rattle.vcd_dump.specs.Taken.{vars_of, drives_in, most_drives}
use Rattle.vcd_dump.proofs.SoundTape.{tape_sound}
use Rattle.vcd_dump.specs.Play.{calls_from, going_of}
use Rattle.vcd_dump.proofs.TapeLemmas.{some_batch}
use Rattle.vcd_dump.proofs.FinishLemmas.{finish_calls, finish_sound, finish_few, finish_long, all_is}
use Rattle.vcd_dump.proofs.tape.tape_of.Goals as goal

pub returns-clause-calls : goal.returns-clause-calls
returns-clause-calls c =
    let plan = c.args.plan.now in
    let setup = c.set_up-setup.result in
    let program = subst (λ (p : Program). IsProgram p) (sym c.requires.one_program) c.signals-conditions.ensures.conditions in
    let some = some_batch plan c.args.site program c.sites-bound.ensures.bound in
    let all = calls_from (stand_in setup) c.batch.result 0 (going_of c.in_ok-way.way) c.stop-order.result (execs_of (code_in setup)) in
    let is = all_is plan c.args.site (code_in setup) setup.image.now setup.skews.now c.batch.result c.stop-order.result
    (going_of c.in_ok-way.way) (c.requires.one_program ∙ sym c.set_up-setup.ensures.code) c.requires.die some c.set_up-setup.ensures.image
    c.set_up-setup.ensures.skews c.batch.ensures c.stop-order.ensures c.in_ok-way.ensures.starts.going in
    subst (λ (all : Calls). IfOk c.finish.result (λ tape. tape.calls ≡ all)) is
    (finish_calls all c.in_ok-way.way c.play_execs.new.way c.in_ok-way.ensures.calls c.in_ok-play_execs.field-0 c.in_ok-play_execs.ensures
    c.finish.result c.finish.ensures)

pub returns-clause-few : goal.returns-clause-few
returns-clause-few c =
    let plan = c.args.plan.now in
    let setup = c.set_up-setup.result in
    let program = subst (λ (p : Program). IsProgram p) (sym c.requires.one_program) c.signals-conditions.ensures.conditions in
    let some = some_batch plan c.args.site program c.sites-bound.ensures.bound in
    let all = calls_from (stand_in setup) c.batch.result 0 (going_of c.in_ok-way.way) c.stop-order.result (execs_of (code_in setup)) in
    let is = all_is plan c.args.site (code_in setup) setup.image.now setup.skews.now c.batch.result c.stop-order.result
    (going_of c.in_ok-way.way) (c.requires.one_program ∙ sym c.set_up-setup.ensures.code) c.requires.die some c.set_up-setup.ensures.image
    c.set_up-setup.ensures.skews c.batch.ensures c.stop-order.ensures c.in_ok-way.ensures.starts.going in
    subst (λ (all : Calls). OnOk c.finish.result (drives_in all ≤ most_drives)) is
    (finish_few all c.in_ok-way.way c.play_execs.new.way c.in_ok-way.ensures.calls c.in_ok-play_execs.field-0 c.in_ok-play_execs.ensures
    c.finish.result c.finish.ensures)

pub returns-clause-too_long : goal.returns-clause-too_long
returns-clause-too_long c =
    let plan = c.args.plan.now in
    let setup = c.set_up-setup.result in
    let program = subst (λ (p : Program). IsProgram p) (sym c.requires.one_program) c.signals-conditions.ensures.conditions in
    let some = some_batch plan c.args.site program c.sites-bound.ensures.bound in
    let all = calls_from (stand_in setup) c.batch.result 0 (going_of c.in_ok-way.way) c.stop-order.result (execs_of (code_in setup)) in
    let is = all_is plan c.args.site (code_in setup) setup.image.now setup.skews.now c.batch.result c.stop-order.result
    (going_of c.in_ok-way.way) (c.requires.one_program ∙ sym c.set_up-setup.ensures.code) c.requires.die some c.set_up-setup.ensures.image
    c.set_up-setup.ensures.skews c.batch.ensures c.stop-order.ensures c.in_ok-way.ensures.starts.going in
    subst (λ (all : Calls). c.finish.result ≡ Err fault.TapeTooLong → most_drives < drives_in all) is
    (finish_long all c.in_ok-way.way c.play_execs.new.way c.in_ok-way.ensures.calls c.in_ok-play_execs.field-0 c.in_ok-play_execs.ensures
    c.finish.result c.finish.ensures)

pub returns-clause-sound : goal.returns-clause-sound
returns-clause-sound c =
    let plan = c.args.plan.now in
    let setup = c.set_up-setup.result in
    let program = subst (λ (p : Program). IsProgram p) (sym c.requires.one_program) c.signals-conditions.ensures.conditions in
    let some = some_batch plan c.args.site program c.sites-bound.ensures.bound in
    let all = calls_from (stand_in setup) c.batch.result 0 (going_of c.in_ok-way.way) c.stop-order.result (execs_of (code_in setup)) in
    let is = all_is plan c.args.site (code_in setup) setup.image.now setup.skews.now c.batch.result c.stop-order.result
    (going_of c.in_ok-way.way) (c.requires.one_program ∙ sym c.set_up-setup.ensures.code) c.requires.die some c.set_up-setup.ensures.image
    c.set_up-setup.ensures.skews c.batch.ensures c.stop-order.ensures c.in_ok-way.ensures.starts.going in
    finish_sound all c.in_ok-way.way c.play_execs.new.way c.in_ok-way.ensures.calls (vars_of plan c.args.site) c.in_ok-play_execs.field-0
    c.in_ok-play_execs.ensures c.finish.result c.finish.ensures
    (subst (IsSound (vars_of plan c.args.site)) (sym is) (tape_sound plan c.args.site program c.sites-bound.ensures.bound c.requires.die))

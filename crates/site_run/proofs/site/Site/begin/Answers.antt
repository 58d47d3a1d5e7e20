use Rattle.std.proofs.Common.{◌≡◌, ◌∙◌, ℕ, ap, refl, sym, subst}
use Rattle.die_sim.specs.Die.{device_of}
use Rattle.lot_plan.specs.Bound.{image_of}
use Rattle.tester_types.specs.declared.record.Trial.{Trial}
use Rattle.site_meaning.specs.Playing.{Stand}
use Rattle.site_meaning.specs.Part.{Part, part_of}
use Rattle.site_run.specs.declared.trial.Outcome.TheVariants as outcome
use Rattle.site_run.specs.Seat.{without_cycles}
use Rattle.site_run.specs.Site.{try_of, Steps}
use Rattle.site_run.proofs.PlanLemmas.{is_planned, set_up_by}
use Rattle.site_run.proofs.StepsLemmas.{steps_all, steps_goes, steps_ends}
use Rattle.site_run.proofs.site.Site.begin.Goals as goal

pub arrive-requires : goal.arrive-requires
arrive-requires g c =
    let old = c.args.self.now in
    let works = c.requires.works in
    let by = set_up_by c.args.task.now.plan.now old.site old.die c.number-number.result c.args.task.now.mem.now.code c.image.result.now
    c.skews.result.now works.bound works.program works.of.one_program works.die c.image.ensures c.skews.ensures in
    record { set_up = record { program = works.program; whole = by.0; signals = by.1; skews = by.2 } }

pub returns-in-Ok-Goes-clause-steps : goal.returns-in-Ok-Goes-clause-steps
returns-in-Ok-Goes-clause-steps g c =
    let old = c.args.self.now in
    let plan = c.args.task.now.plan.now in
    let code = c.args.task.now.mem.now.code in
    let image_is = c.image.ensures ∙ ap (image_of plan old.site old.die) c.number-number.ensures in
    let polled = rw c.in-Ok-Goes.field-0-is at c.in-Ok-Goes.ensures.polled in
    let comes = λ (part : Part) (same : part ≡ part_of plan old.site).
    let planned = is_planned plan old.site old.die (try_of old) code part same c.requires.works.of.one_program c.requires.works.die in
    polled part old.die (try_of old) planned.code (ap (λ (s : Stand). s.device) planned.stand_is ∙ ap device_of (sym image_is)) refl in
    steps_all c.go.result _ _
    (λ o a. steps_goes plan c.args.task.now.stops old (g.K.Socket.told c.args.socket.now) (g.K.Socket.told c.arrive.new.socket) (g.K.Socket.told c.go.new.socket)
    o c.go.new.self.state.taken c.requires.none c.in-Ok-Goes.run' comes a c.go.ensures.taken c.arrive.ensures.count c.go.ensures.leaves.count
    c.arrive.ensures.tape)
    c.go.ensures.advances

pub returns-in-Ok-Ends-clause-steps : goal.returns-in-Ok-Ends-clause-steps
returns-in-Ok-Ends-clause-steps g c =
    let old = c.args.self.now in
    let plan = c.args.task.now.plan.now in
    let code = c.args.task.now.mem.now.code in
    let end = c.in-Ok-Ends.verdict in
    let image_is = c.image.ensures ∙ ap (image_of plan old.site old.die) c.number-number.ensures in
    let polled = rw c.in-Ok-Ends.field-0-is at c.in-Ok-Ends.ensures.polled in
    let fails = rw c.in-Ok-Ends.field-0-is at c.in-Ok-Ends.ensures.failed in
    let risen = rw c.in-Ok-Ends.field-0-is at c.in-Ok-Ends.ensures.cause in
    let result_is = c.without_cycles.ensures ∙ ap (λ v. without_cycles c.number-number.result v) c.in-Ok-Ends.verdict-is
    ∙ ap (λ (n : ℕ). without_cycles n end) c.number-number.ensures in
    subst (λ (t : Trial). Steps plan c.args.task.now.stops old (g.K.Socket.told c.args.socket.now) (g.K.Socket.told c.arrive.new.socket) (outcome.Ends t) old.state.taken)
    (sym result_is)
    (steps_ends plan c.args.task.now.stops old (g.K.Socket.told c.args.socket.now) (g.K.Socket.told c.arrive.new.socket) end c.requires.none fails risen
    (λ (part : Part) same quiet.
    let planned = is_planned plan old.site old.die (try_of old) code part same c.requires.works.of.one_program c.requires.works.die in
    polled part old.die (try_of old) planned.code (ap (λ (s : Stand). s.device) planned.stand_is ∙ ap device_of (sym image_is)) quiet)
    c.arrive.ensures.tape)

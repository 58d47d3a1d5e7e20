use Rattle.std.proofs.Common.{◌∙◌, None, ap, sym, rules}
use Rattle.std.proofs.lemmas.Bool.{lt-ltb}
use Rattle.lot_plan.specs.Bound.{image_of, stop_of}
use Rattle.cycle_run.specs.Tape.{with_calls}
use Rattle.site_run.specs.Seat.{running_of}
use Rattle.cycle_run.specs.BatchLaws.{with-none}
use Rattle.site_run.proofs.BeforeLemmas.{not_live, no_calls_live, no_calls_ordered, ends_live, ends_ordered, runs_now, taped_so}
use Rattle.site_run.proofs.PlanLemmas.{set_up_by}
use Rattle.site_run.proofs.site.Site.before_batch.Goals as goal

pub returns-then-poll-clause-polled : goal.returns-then-poll-clause-polled
returns-then-poll-clause-polled g c = λ part seat same is.
    let old = c.args.self.now in
    ends_live c.args.task.now.plan.now old c.args.task.now.stops part seat _ (running_of (g.K.Socket.told c.args.socket.now) c.args.run.now) same is
    (lt-ltb old.state.taken c.args.task.now.stops (c.poll.ensures.answer.0 c.if-poll.true))

pub returns-then-is_ordered-clause-polled : goal.returns-then-is_ordered-clause-polled
returns-then-is_ordered-clause-polled g c = λ part seat same is.
    let old = c.args.self.now in
    ends_ordered c.args.task.now.plan.now old c.args.task.now.stops part seat _ (running_of (g.K.Socket.told c.args.socket.now) c.args.run.now) same is c.stop.result
    (not_live old.state.taken c.args.task.now.stops c.poll.result c.poll.ensures.answer c.if-poll.false)
    (c.stop.ensures ∙ ap (stop_of c.args.task.now.plan.now.rows old.site old.die) c.number-number.ensures)
    (sym c.is_ordered.ensures ∙ c.if-is_ordered.true)

pub run_batch-requires-clause-set_up : goal.run_batch-requires-clause-set_up
run_batch-requires-clause-set_up g c =
    let old = c.args.self.now in
    let works = c.requires.works in
    let by = set_up_by c.args.task.now.plan.now old.site old.die c.number-number.result c.args.task.now.mem.now.code c.image.result.now
    c.skews.result.now works.bound works.program works.of.one_program works.die c.image.ensures c.skews.ensures in
    record { program = works.program; whole = by.0; signals = by.1; skews = by.2 }

pub returns-clause-polled : goal.returns-clause-polled
returns-clause-polled g c =
    let old = c.args.self.now in
    let plan = c.args.task.now.plan.now in
    let polled = runs_now plan old c.args.task.now.stops c.args.task.now.mem.now.code c.image.result.now c.skews.result.now c.batch.result c.args.run.now.at.bench.checker.count.keep
    c.stop.result (g.K.Socket.told c.args.socket.now) (g.K.Socket.told c.run_batch.new.station.socket.now) c.args.run.now c.run_batch.new.run c.run_batch.result
    c.requires.works.of.one_program (c.image.ensures ∙ ap (image_of plan old.site old.die) c.number-number.ensures) c.skews.ensures c.batch.ensures
    c.requires.keep c.requires.works.die (not_live old.state.taken c.args.task.now.stops c.poll.result c.poll.ensures.answer c.if-poll.false)
    (c.stop.ensures ∙ ap (stop_of plan.rows old.site old.die) c.number-number.ensures) (sym c.is_ordered.ensures ∙ c.if-is_ordered.false)
    c.run_batch.ensures.polled in
    search rules

pub returns-then-poll-clause-tape : goal.returns-then-poll-clause-tape
returns-then-poll-clause-tape g c = λ part seat same is.
    let old = c.args.self.now in
    let told = g.K.Socket.told c.args.socket.now in
    sym (with-none told.tape) ∙ ap (with_calls told.tape)
    (sym (no_calls_live c.args.task.now.plan.now old c.args.task.now.stops part seat None (running_of told c.args.run.now) same is
    (lt-ltb old.state.taken c.args.task.now.stops (c.poll.ensures.answer.0 c.if-poll.true))))

pub returns-then-is_ordered-clause-tape : goal.returns-then-is_ordered-clause-tape
returns-then-is_ordered-clause-tape g c = λ part seat same is.
    let old = c.args.self.now in
    let told = g.K.Socket.told c.args.socket.now in
    sym (with-none told.tape) ∙ ap (with_calls told.tape)
    (sym (no_calls_ordered c.args.task.now.plan.now old c.args.task.now.stops part seat None (running_of told c.args.run.now) same is c.stop.result
    (not_live old.state.taken c.args.task.now.stops c.poll.result c.poll.ensures.answer c.if-poll.false)
    (c.stop.ensures ∙ ap (stop_of c.args.task.now.plan.now.rows old.site old.die) c.number-number.ensures)
    (sym c.is_ordered.ensures ∙ c.if-is_ordered.true)))

pub returns-clause-tape : goal.returns-clause-tape
returns-clause-tape g c =
    let old = c.args.self.now in
    let plan = c.args.task.now.plan.now in
    let taped = taped_so plan old c.args.task.now.stops c.args.task.now.mem.now.code c.image.result.now c.skews.result.now c.batch.result c.args.run.now.at.bench.checker.count.keep
    c.stop.result (g.K.Socket.told c.args.socket.now) (g.K.Socket.told c.run_batch.new.station.socket.now) c.args.run.now c.run_batch.result
    c.requires.works.of.one_program (c.image.ensures ∙ ap (image_of plan old.site old.die) c.number-number.ensures) c.skews.ensures c.batch.ensures
    c.requires.keep c.requires.works.die (not_live old.state.taken c.args.task.now.stops c.poll.result c.poll.ensures.answer c.if-poll.false)
    (c.stop.ensures ∙ ap (stop_of plan.rows old.site old.die) c.number-number.ensures) (sym c.is_ordered.ensures ∙ c.if-is_ordered.false)
    c.run_batch.ensures.tape in
    search rules

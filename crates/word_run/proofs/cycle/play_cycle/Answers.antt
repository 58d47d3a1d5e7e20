use Rattle.std.proofs.Common.{◌≡◌, ◌∙◌, ℕ, List, length, min, sym, subst}
use Rattle.std.specs.Prelude.{All}
use Rattle.std.specs.Int.{bit_at}
use Rattle.tester_types.specs.declared.cycle.Moment.{Moment}
use Rattle.edge_gen.specs.Moments.{moments_of}
use Rattle.edge_gen.specs.Held.{Held}
use Rattle.die_sim.specs.Die.{Device}
use Rattle.site_meaning.specs.Playing.{along_of, after_moments, whose_next}
use Rattle.cycle_run.specs.Step.{IsScheduled, HoldsSchedules}
use Rattle.cycle_run.proofs.MomentLemmas.{row_long, moved_fit, moments_fit}
use Rattle.cycle_run.proofs.ScheduleLemmas.{schedule_is, moments_are, holds_only, holds_asked}
use Rattle.cycle_run.specs.Setup.{code_in}
use Rattle.die_words.specs.Lane.{bit}
use Rattle.word_run.specs.Board.{are_clear, StandsAt}
use Rattle.word_run.proofs.BoardLemmas.{if_ok}
use Rattle.word_run.proofs.cycle.play_cycle.Goals as goal

pub of-requires-clause-skews : goal.of-requires-clause-skews
of-requires-clause-skews c =
    let code = code_in c.args.setup.now in
    let cycle = c.args.cycle in
    let long = row_long code cycle.row c.row-row.result.now c.signals-signals.ensures.conditions c.requires.of.row c.row-row.ensures in
    moved_fit code c.args.setup.now.skews.now cycle.table c.table-table.result.now c.row-row.result.now c.requires.set_up.skews_fit
    c.requires.of.table c.table-table.ensures.found long

pub of-requires-clause-held : goal.of-requires-clause-held
of-requires-clause-held c =
    let code = code_in c.args.setup.now in
    let cycle = c.args.cycle in
    holds_only code c.args.setup.now.skews.now c.args.schedules.now (cycle.table, cycle.row) _ c.requires.held
    (schedule_is code c.args.setup.now.skews.now cycle.table cycle.row c.table-table.result.now c.row-row.result.now
    c.table-table.ensures.found c.row-row.ensures)

pub play_scheduled-requires-clause-moments : goal.play_scheduled-requires-clause-moments
play_scheduled-requires-clause-moments c =
    let code = code_in c.args.setup.now in
    let skews = c.args.setup.now.skews.now in
    let cycle = c.args.cycle in
    let signals = length c.args.setup.now.image.now.binds in
    let table = c.table-table.result.now in
    let row = c.row-row.result.now in
    let long = row_long code cycle.row row c.signals-signals.ensures.conditions c.requires.of.row c.row-row.ensures in
    let fit = moved_fit code skews cycle.table table row c.requires.set_up.skews_fit c.requires.of.table c.table-table.ensures.found long in
    subst (λ (l : List Moment). All (IsScheduled signals) l) (sym (c.as_slice.ensures ∙ c.in-Ok.ensures.moments))
    (moments_fit table row skews signals (long ∙ sym c.requires.set_up.signals) c.table-table.ensures.period.1 fit)

pub returns-in-Ok-clause-held : goal.returns-in-Ok-clause-held
returns-in-Ok-clause-held c =
    let code = code_in c.args.setup.now in
    let skews = c.args.setup.now.skews.now in
    let cycle = c.args.cycle in
    let moments = moments_of c.table-table.result.now c.row-row.result.now skews 0 in
    let last = rw c.in-Ok.is at c.of.follows.holds-at-none in
    subst (λ (h : Held). HoldsSchedules code skews h) (sym last)
    (holds_asked code skews c.args.schedules.now (cycle.table, cycle.row) moments c.requires.held
    (schedule_is code skews cycle.table cycle.row c.table-table.result.now c.row-row.result.now c.table-table.ensures.found
    c.row-row.ensures))

pub returns-in-Ok-clause-lanes : goal.returns-in-Ok-clause-lanes
returns-in-Ok-clause-lanes c =
    let code = code_in c.args.setup.now in
    let skews = c.args.setup.now.skews.now in
    let are = λ (device : Device) (start : ℕ). moments_are code skews device start c.args.cycle c.table-table.result.now c.row-row.result.now
    c.as_slice.result.now c.table-table.ensures.found c.row-row.ensures (c.as_slice.ensures ∙ c.in-Ok.ensures.moments) in
    if_ok c.play_scheduled.result
    (λ left plays k device going within h.
    let there = subst (λ (l : List Moment). StandsAt c.play_scheduled.new.board k device (after_moments device (along_of going) l))
    (are device going.time) (plays.lanes k device (along_of going) going.time within h) in
    record { die = there.die; priors = there.priors })
    c.play_scheduled.ensures.plays

pub returns-in-Ok-clause-clear : goal.returns-in-Ok-clause-clear
returns-in-Ok-clause-clear c =
    let code = code_in c.args.setup.now in
    let skews = c.args.setup.now.skews.now in
    let are = λ (device : Device) (start : ℕ). moments_are code skews device start c.args.cycle c.table-table.result.now c.row-row.result.now
    c.as_slice.result.now c.table-table.ensures.found c.row-row.ensures (c.as_slice.ensures ∙ c.in-Ok.ensures.moments) in
    if_ok c.play_scheduled.result
    (λ left plays k device exec going within h.
    subst (λ (l : List Moment). bit_at left k ≡ min (bit_at c.args.alive k)
    (bit (are_clear device (whose_next exec going c.args.cycle) (along_of going) l)))
    (are device going.time) (plays.clear k device (whose_next exec going c.args.cycle) (along_of going) going.time within h))
    c.play_scheduled.ensures.plays

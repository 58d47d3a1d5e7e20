use Rattle.std.proofs.Common.{◌≡◌, [], List, Ok, ap, subst, sym, ◌∙◌}
use Rattle.std.proofs.lemmas.Result.{err_from_is_err_and}
use Rattle.page_code.specs.Fields.{Fails, items_at}
use Rattle.page_code.specs.Reading.{event_at}
use Rattle.tester_types.specs.declared.wave.Event.{Event}
use Rattle.page_code.proofs.ItemsLemmas.{goes_on, stops, is_done}
use Rattle.page_code.proofs.read_tables.events.Goals as goal

pub returns-in_err-event : goal.returns-in_err-event
returns-in_err-event c =
    let p = err_from_is_err_and c.from_residual.result c.from_residual.ensures.1 in
    rw (p.1, p.2)
    (stops c.in_err-event.field-0.0 (event_at c.args.period) c.loop.events.items c.args.count c.loop.counter c.loop.rest.now
    (items_at (event_at c.args.period) c.args.count [] c.args.bytes.now) c.loop-test.true (subst (λ (before : List Event). Fails c.in_err-event.field-0.0 ((event_at c.args.period) before c.loop.rest.now)) c.deref.ensures.value c.in_err-event.ensures) c.loop.invariant)

pub loop-preserved : goal.loop-preserved
loop-preserved c =
    rw c.in_ok-push.ensures.items
    (goes_on (event_at c.args.period) c.loop.events.items c.args.count c.loop.counter c.loop.rest.now c.in_ok-event.event c.in_ok-event.after.now
    (items_at (event_at c.args.period) c.args.count [] c.args.bytes.now) c.loop-test.true (subst (λ (before : List Event). (event_at c.args.period) before c.loop.rest.now ≡ Ok (c.in_ok-event.event, c.in_ok-event.after.now)) c.deref.ensures.value c.in_ok-event.ensures) c.loop.invariant)

pub returns : goal.returns
returns c =
    is_done (event_at c.args.period) c.loop.events.items c.args.count c.loop.counter c.loop.rest.now
    (items_at (event_at c.args.period) c.args.count [] c.args.bytes.now) c.loop-test.false c.loop.invariant
    ∙ ap (λ (items : List Event). Ok (items, c.loop.rest.now)) (sym c.from_vec.ensures)

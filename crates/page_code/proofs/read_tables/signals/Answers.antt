use Rattle.std.proofs.Common.{◌≡◌, [], List, Ok, ap, subst, sym, ◌∙◌}
use Rattle.std.proofs.lemmas.Result.{err_from_is_err_and}
use Rattle.page_code.specs.Fields.{Fails, items_at}
use Rattle.page_code.specs.Reading.{signal_at}
use Rattle.packed_code.specs.declared.parts.CodeSignal.{CodeSignal}
use Rattle.page_code.proofs.ItemsLemmas.{goes_on, stops, is_done}
use Rattle.page_code.proofs.read_tables.signals.Goals as goal

pub returns-in_err-signal : goal.returns-in_err-signal
returns-in_err-signal c =
    let p = err_from_is_err_and c.from_residual.result c.from_residual.ensures.1 in
    rw (p.1, p.2)
    (stops c.in_err-signal.field-0.0 signal_at c.loop.signals.items c.args.count c.loop.counter c.loop.rest.now
    (items_at signal_at c.args.count [] c.args.bytes.now) c.loop-test.true (subst (λ (before : List CodeSignal). Fails c.in_err-signal.field-0.0 (signal_at before c.loop.rest.now)) c.deref.ensures.value c.in_err-signal.ensures) c.loop.invariant)

pub loop-preserved : goal.loop-preserved
loop-preserved c =
    rw c.in_ok-push.ensures.items
    (goes_on signal_at c.loop.signals.items c.args.count c.loop.counter c.loop.rest.now c.in_ok-signal.signal c.in_ok-signal.after.now
    (items_at signal_at c.args.count [] c.args.bytes.now) c.loop-test.true (subst (λ (before : List CodeSignal). signal_at before c.loop.rest.now ≡ Ok (c.in_ok-signal.signal, c.in_ok-signal.after.now)) c.deref.ensures.value c.in_ok-signal.ensures) c.loop.invariant)

pub returns : goal.returns
returns c =
    is_done signal_at c.loop.signals.items c.args.count c.loop.counter c.loop.rest.now
    (items_at signal_at c.args.count [] c.args.bytes.now) c.loop-test.false c.loop.invariant
    ∙ ap (λ (items : List CodeSignal). Ok (items, c.loop.rest.now)) (sym c.from_vec.ensures)

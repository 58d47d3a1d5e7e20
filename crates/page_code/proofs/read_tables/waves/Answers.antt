use Rattle.std.proofs.Common.{◌≡◌, [], List, Ok, ap, subst, sym, ◌∙◌}
use Rattle.std.proofs.lemmas.Result.{err_from_is_err_and}
use Rattle.page_code.specs.Fields.{Fails, items_at}
use Rattle.page_code.specs.Reading.{wave_at}
use Rattle.tester_types.specs.declared.wave.Wave.{Wave}
use Rattle.page_code.proofs.ItemsLemmas.{goes_on, stops, is_done}
use Rattle.page_code.proofs.read_tables.waves.Goals as goal

pub returns-in_err-wave : goal.returns-in_err-wave
returns-in_err-wave c =
    let p = err_from_is_err_and c.from_residual.result c.from_residual.ensures.1 in
    rw (p.1, p.2)
    (stops c.in_err-wave.field-0.0 (wave_at c.args.signals c.args.period c.args.most) c.loop.waves.items c.args.count c.loop.counter c.loop.rest.now
    (items_at (wave_at c.args.signals c.args.period c.args.most) c.args.count [] c.args.bytes.now) c.loop-test.true (subst (λ (before : List Wave). Fails c.in_err-wave.field-0.0 ((wave_at c.args.signals c.args.period c.args.most) before c.loop.rest.now)) c.deref.ensures.value c.in_err-wave.ensures) c.loop.invariant)

pub loop-preserved : goal.loop-preserved
loop-preserved c =
    rw c.in_ok-push.ensures.items
    (goes_on (wave_at c.args.signals c.args.period c.args.most) c.loop.waves.items c.args.count c.loop.counter c.loop.rest.now c.in_ok-wave.wave c.in_ok-wave.after.now
    (items_at (wave_at c.args.signals c.args.period c.args.most) c.args.count [] c.args.bytes.now) c.loop-test.true (subst (λ (before : List Wave). (wave_at c.args.signals c.args.period c.args.most) before c.loop.rest.now ≡ Ok (c.in_ok-wave.wave, c.in_ok-wave.after.now)) c.deref.ensures.value c.in_ok-wave.ensures) c.loop.invariant)

pub returns : goal.returns
returns c =
    is_done (wave_at c.args.signals c.args.period c.args.most) c.loop.waves.items c.args.count c.loop.counter c.loop.rest.now
    (items_at (wave_at c.args.signals c.args.period c.args.most) c.args.count [] c.args.bytes.now) c.loop-test.false c.loop.invariant
    ∙ ap (λ (items : List Wave). Ok (items, c.loop.rest.now)) (sym c.from_vec.ensures)

use Rattle.std.proofs.Common.{◌-◌, arith, sym, ◌∙◌}
use Rattle.tester_types.proofs.WaveLemmas.{last_found, none_last}
use Rattle.tester_types.proofs.wave_search.last_place.Goals as goal

pub returns-then-is_wave : goal.returns-then-is_wave
returns-then-is_wave c =
    let place = c.loop-place.place in
    let within = c.loop-place.invariant.within in
    last_found c.args.waves.now c.args.signal c.args.character (place - 1) c.index-waves-place.result
    (omega (arith, within, c.loop-place-test.true)) c.index-waves-place.is (sym c.is_wave.ensures ∙ c.if-is_wave.true)
    (λ j d lt inside. c.loop-place.invariant.none j d (omega (arith, lt)) inside)

pub returns : goal.returns
returns c =
    none_last c.args.waves.now c.args.signal c.args.character
    (λ j d inside. c.loop-place.invariant.none j d (omega (arith, c.loop-place-test.false)) inside)

use Rattle.std.proofs.Common.{sym, ap, subst, ◌∙◌, arith, ℕ}
use Rattle.std.proofs.lemmas.List.{get_or_read}
use Rattle.tester_types.specs.Waves.{is_wave, AreBelow, AreFrom}
use Rattle.tester_types.proofs.WaveLemmas.{found_place, no_place}
use Rattle.tester_types.proofs.wave_search.search.Goals as goal

pub returns-then-place-waves : goal.returns-then-place-waves
returns-then-place-waves c =
    let waves = c.args.waves.now in
    let place = c.place_of-place.result in
    no_place waves c.requires.rising c.args.signal c.args.character place
    (subst (λ (key : ℕ). AreBelow waves place key) c.key_of.ensures c.place_of-place.ensures.below)
    (subst (λ (key : ℕ). AreFrom waves place key) c.key_of.ensures c.place_of-place.ensures.above)
    (λ d inside. absurd (omega (arith, inside, c.if-place-waves.true)))

pub returns-then-is_wave : goal.returns-then-is_wave
returns-then-is_wave c =
    found_place c.args.waves.now c.requires.rising c.args.signal c.args.character c.place_of-place.result c.index-waves-place.result
    (omega (arith, c.if-place-waves.false)) c.index-waves-place.is (sym c.is_wave.ensures ∙ c.if-is_wave.true)

pub returns : goal.returns
returns c =
    let waves = c.args.waves.now in
    let place = c.place_of-place.result in
    let wave = c.index-waves-place.result in
    no_place waves c.requires.rising c.args.signal c.args.character place
    (subst (λ (key : ℕ). AreBelow waves place key) c.key_of.ensures c.place_of-place.ensures.below)
    (subst (λ (key : ℕ). AreFrom waves place key) c.key_of.ensures c.place_of-place.ensures.above)
    (λ d inside.
    ap (is_wave c.args.signal c.args.character) (sym (get_or_read waves place wave inside c.index-waves-place.is d))
    ∙ sym c.is_wave.ensures ∙ c.if-is_wave.false)

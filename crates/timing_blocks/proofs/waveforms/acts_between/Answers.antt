use Rattle.std.proofs.Common.{List}
use Rattle.std.proofs.lemmas.Result.{err_from_is_err_and}
use Rattle.tester_types.specs.declared.wave.Act.{Act}
use Rattle.timing_blocks.proofs.WaveformLemmas.{acts_stop}
use Rattle.timing_blocks.proofs.waveforms.acts_between.Goals as goal

pub returns-in_err-take_part : goal.returns-in_err-take_part
returns-in_err-take_part c =
    let p = err_from_is_err_and c.from_residual.result c.from_residual.ensures.1 in
    rw (p.1, p.2)
    (acts_stop {Z = Unit {0}} {W = List Act} (λ _. c.take_part.new.acts.items) (λ x. x) c.args.first c.loop-token.slash_next c.loop-token.acts.items c.args.rest.bytes.now c.args.rest.tokens.now c.loop-token.token-index _ _ _
    c.in_err-take_part.field-0.0 c.loop-token-test.true c.part_of.ensures c.in_err-take_part.ensures c.loop-token.invariant)

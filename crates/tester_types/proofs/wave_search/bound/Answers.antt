use Rattle.std.proofs.Common.{◌+◌, arith}
use Rattle.tester_types.proofs.WaveLemmas.{above_from}
use Rattle.tester_types.proofs.wave_search.bound.Goals as goal

pub returns-then-key_in-key-clause-above : goal.returns-then-key_in-key-clause-above
returns-then-key_in-key-clause-above c =
    above_from c.args.waves.now c.requires.rising c.args.key (c.args.from + c.loop-step.step) c.index-waves-place.result
    (omega (arith, c.loop-step-test.true)) c.index-waves-place.is (omega (arith, c.key_in.ensures, c.if-key_in-key.true))

use Rattle.std.proofs.Common.{arith}
use Rattle.tester_types.proofs.WaveLemmas.{RiseTo-more}
use Rattle.tester_types.proofs.wave_search.rise.Goals as goal

pub loop-place-preserved : goal.loop-place-preserved
loop-place-preserved c =
    let place = c.loop-place.place in
    let before = c.index-waves-place.result in
    let here = c.index-waves-place-in-loop-place.result in
    record {
      some = omega arith;
      rise = RiseTo-more c.args.waves.now place before here c.loop-place-test.true c.index-waves-place.is
          c.index-waves-place-in-loop-place.is
          (omega (arith, c.if-key_in.false, c.key_in.ensures, c.key_in-in-loop-place.ensures))
          c.loop-place.invariant.rise;
    }

use Rattle.std.proofs.Common.{ℕ, ◌+◌, ◌-◌, ◌/◌, ◌<◌, refl, arith}
use Rattle.tester_types.proofs.WaveLemmas.{below_upto, above_from}
use Rattle.tester_types.proofs.wave_search.first_between.Goals as goal

pub loop-low-preserved-then-key_in-key : goal.loop-low-preserved-then-key_in-key
loop-low-preserved-then-key_in-key c =
    let invariant = c.loop-low.invariant in
    let middle : ℕ = c.loop-low.low + (c.loop-low.high - c.loop-low.low) / 2 in
    let less : middle < c.loop-low.high = omega (arith, c.loop-low-test.true) in
    record {
      below = below_upto c.args.waves.now c.requires.rising c.args.key middle (middle + 1) c.index-waves-middle.result
          (omega (arith, less, invariant.within)) c.index-waves-middle.is
          (omega (arith, c.key_in.ensures, c.if-key_in-key.true)) refl;
      above = invariant.above;
      behind = omega (arith, less);
      within = invariant.within;
    }

pub loop-low-preserved : goal.loop-low-preserved
loop-low-preserved c =
    let invariant = c.loop-low.invariant in
    let middle : ℕ = c.loop-low.low + (c.loop-low.high - c.loop-low.low) / 2 in
    let less : middle < c.loop-low.high = omega (arith, c.loop-low-test.true) in
    record {
      below = invariant.below;
      above = above_from c.args.waves.now c.requires.rising c.args.key middle c.index-waves-middle.result
          (omega (arith, less, invariant.within)) c.index-waves-middle.is
          (omega (arith, c.key_in.ensures, c.if-key_in-key.false));
      behind = omega arith;
      within = omega (arith, less, invariant.within);
    }

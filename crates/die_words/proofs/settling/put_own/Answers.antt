use Rattle.std.proofs.Common.{◌<◌, ◌∙◌, length, length-set, arith}
use Rattle.die_words.proofs.FitLemmas.{FitsOwn-set}
use Rattle.die_words.proofs.settling.put_own.Goals as goal

pub loop-n-preserved : goal.loop-n-preserved
loop-n-preserved c =
    let i = c.loop-n.n in
    let words = c.loop-n.words.items in
    let inside : i < length words = omega (arith, c.loop-n-test.true, c.loop-n.invariant.count) in
    record {
      count = length-set words i c.forced.result ∙ c.loop-n.invariant.count;
      done = FitsOwn-set c.args.forces.now c.args.held.now words i c.forced.result inside c.forced.ensures.fits c.loop-n.invariant.done;
    }

use Rattle.std.proofs.Common.{arith, take}
use Rattle.std.proofs.lemmas.List.{length-take-le}
use Rattle.stil_tree.proofs.Spots.{spot-start, goes_on}
use Rattle.stil_tree.proofs.block.block_start.Goals as goal

pub loop-at-init : goal.loop-at-init
loop-at-init c = record {
  spot = spot-start;
  few = omega arith;
}

pub loop-at-preserved : goal.loop-at-preserved
loop-at-preserved c =
    let said = c.spot_behind-spot.ensures in
    record {
      spot =
          goes_on c.args.tokens.now c.loop-at.at _ c.spot_behind-spot.result (omega arith)
          (said.spot (take c.loop-at.at c.args.tokens.now) (length-take-le c.loop-at.at c.args.tokens.now (omega arith)) c.loop-at.invariant.spot);
      few = said.few;
    }

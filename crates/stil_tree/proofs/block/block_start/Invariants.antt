use Rattle.std.proofs.Common.{◌≤◌, take}
use Rattle.stil_tree.specs.Step.{IsSpot}
use Rattle.stil_tree.proofs.block.block_start.Given as goal

abbrev pub invariant-loop-at : goal.invariant-loop-at
invariant-loop-at l = record {
  spot : IsSpot (take l.at l.tokens) l.spot.start l.spot.braces;
  few : l.spot.braces ≤ l.at;
}

use Rattle.std.proofs.Common.{◌≡◌, ◌≤◌, take}
use Rattle.stil_tree.specs.Blocks.{open_braces}
use Rattle.stil_tree.proofs.slow.open_braces.Given as goal

abbrev pub invariant-loop-token : goal.invariant-loop-token
invariant-loop-token l = record {
  open' : l.open ≡ open_braces (take l.token-index l.tokens);
  few : l.open ≤ l.token-index;
}

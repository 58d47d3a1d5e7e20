use Rattle.std.proofs.Common.{◌≡◌, ◌+◌, ◌≤◌, drop}
use Rattle.stil_tree.specs.Slow.{block_end}
use Rattle.stil_tree.proofs.slow.block_len.Given as goal

abbrev pub invariant-loop-at : goal.invariant-loop-at
invariant-loop-at l = record {
  end : l.at + block_end l.open (drop l.at l.tokens) ≡ block_end 0 l.tokens;
  few : l.open ≤ l.at;
}

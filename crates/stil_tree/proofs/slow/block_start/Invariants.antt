use Rattle.stil_tree.proofs.SlowBlocks.{IsLast}
use Rattle.stil_tree.proofs.slow.block_start.Given as goal

abbrev pub invariant-loop-index : goal.invariant-loop-index
invariant-loop-index l = IsLast l.tokens l.index l.start

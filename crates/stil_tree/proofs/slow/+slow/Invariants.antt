use Rattle.std.proofs.Common.{◌+◌, ◌-◌, ◌*◌, length}
use Rattle.stil_tree.specs.Slow.{trees_of}
use Rattle.stil_tree.proofs.Slowly.{IsRead}
use Rattle.stil_tree.proofs.slow.+slow.Given as goal

abbrev pub decreases-level : goal.decreases-level
decreases-level l = 2 * (16 - l.depth) + 1

abbrev pub decreases-statement : goal.decreases-statement
decreases-statement l = 2 * (16 - l.depth)

abbrev pub invariant-level-loop-read : goal.invariant-level-loop-read
invariant-level-loop-read l = IsRead l.depth l.at l.read (trees_of l.stmts.items) l.tokens

abbrev pub decreases-level-loop-read : goal.decreases-level-loop-read
decreases-level-loop-read l = length l.tokens - l.read

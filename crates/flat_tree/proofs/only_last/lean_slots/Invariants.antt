use Rattle.std.proofs.Common.{length}
use Rattle.flat_tree.specs.Leaning.{IsKeeping}
use Rattle.flat_tree.proofs.only_last.lean_slots.Given as goal

abbrev pub invariant-loop-place : goal.invariant-loop-place
invariant-loop-place l =
    IsKeeping l.fn.slots.items l.slots.items l.place l.kept (length l.fn.ahead.signals) l.ahead

abbrev pub decreases-loop-place : goal.decreases-loop-place
decreases-loop-place l = l.place

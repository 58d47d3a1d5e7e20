use Rattle.std.proofs.Common.{◌+◌, ◌*◌, length}
use Rattle.stil_ast.specs.Meaning.Flat.{done}
use Rattle.flat_tree.specs.Counts.{body_count}
use Rattle.flat_tree.specs.Slots.{whole_front, wholes_flat}
use Rattle.flat_tree.specs.Leaning.{IsLeaning}
use Rattle.flat_tree.proofs.only_last.+lean.Given as goal

abbrev pub decreases-lean_list : goal.decreases-lean_list
decreases-lean_list l = 3 * body_count l.list.now + 2

abbrev pub decreases-lean_wholes : goal.decreases-lean_wholes
decreases-lean_wholes l = 3 * body_count (wholes_flat l.wholes.now.items) + 1

abbrev pub decreases-lean_whole : goal.decreases-lean_whole
decreases-lean_whole l = 3 * body_count (whole_front l.whole.now done)

abbrev pub invariant-lean_wholes-loop-place : goal.invariant-lean_wholes-loop-place
invariant-lean_wholes-loop-place l =
    IsLeaning l.fn.wholes.items l.wholes.items l.place (length l.fn.ahead.signals) l.ahead

abbrev pub decreases-lean_wholes-loop-place : goal.decreases-lean_wholes-loop-place
decreases-lean_wholes-loop-place l = l.place

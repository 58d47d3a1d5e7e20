use Rattle.std.proofs.Common.{◌≡◌, ◌+◌, ◌*◌, ◌≤◌}
use Rattle.stil_ast.specs.Meaning.Flat.{done}
use Rattle.stil_ast.specs.Meaning.Flattening.{joined}
use Rattle.flat_tree.specs.Counts.{body_count}
use Rattle.flat_tree.specs.Slots.{whole_front, wholes_flat}
use Rattle.flat_tree.specs.Kept.{loops_in}
use Rattle.flat_tree.proofs.calling.+loops.Given as goal

abbrev pub decreases-loops_of : goal.decreases-loops_of
decreases-loops_of l = 3 * body_count l.body + 2

abbrev pub decreases-add_loops : goal.decreases-add_loops
decreases-add_loops l = 3 * body_count (wholes_flat l.wholes.items) + 1

abbrev pub decreases-add_loop : goal.decreases-add_loop
decreases-add_loop l = 3 * body_count (whole_front l.whole done)

abbrev pub invariant-add_loops-loop-whole : goal.invariant-add_loops-loop-whole
invariant-add_loops-loop-whole l = record {
  can_go : (goal.iterator-add_loops-loop-whole).can_next l.whole-iterator;
  ends : (goal.iterator-add_loops-loop-whole).is_finite l.whole-iterator;
  few : body_count (wholes_flat l.whole-iterator.rest.items) ≤ body_count (wholes_flat l.fn.wholes.items);
  made : joined l.loops (loops_in (wholes_flat l.whole-iterator.rest.items))
      ≡ joined l.fn.loops (loops_in (wholes_flat l.fn.wholes.items));
}

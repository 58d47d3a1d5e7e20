use Rattle.std.proofs.Common.{◌≡◌, ◌+◌, ◌*◌, ◌≤◌}
use Rattle.text_bytes.specs.Limits.{most_cycles}
use Rattle.stil_ast.specs.Meaning.Flat.{done}
use Rattle.packed_code.specs.Count.{capped}
use Rattle.flat_tree.specs.Counts.{body_count}
use Rattle.flat_tree.specs.Items.{item_front}
use Rattle.cycle_comp.specs.Counting.{vector_count}
use Rattle.cycle_comp.proofs.counting.+counting.Given as goal

abbrev pub decreases-list_cycles : goal.decreases-list_cycles
decreases-list_cycles l = 2 * body_count l.list.now + 1

abbrev pub decreases-item_cycles : goal.decreases-item_cycles
decreases-item_cycles l = 2 * body_count (item_front l.item.now done)

abbrev pub invariant-list_cycles-loop-item : goal.invariant-list_cycles-loop-item
invariant-list_cycles-loop-item l = record {
  can_go : (goal.iterator-list_cycles-loop-item).can_next l.item-iterator;
  ends : (goal.iterator-list_cycles-loop-item).is_finite l.item-iterator;
  few : body_count l.item-iterator ≤ body_count l.list;
  counted : capped (l.total + vector_count l.item-iterator) ≡ capped (vector_count l.list);
  small : l.total ≤ most_cycles + 1;
}

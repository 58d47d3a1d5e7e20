use Rattle.std.proofs.Common.{◌+◌, ◌*◌}
use Rattle.stil_ast.specs.Meaning.Flat.{done}
use Rattle.flat_tree.specs.Counts.{body_count}
use Rattle.flat_tree.specs.Items.{item_front}
use Rattle.cycle_comp.specs.Known.{IsKnown, Moves}
use Rattle.cycle_comp.proofs.TreeStepLemmas.{IsWriting}
use Rattle.cycle_comp.proofs.writing.+writing.Given as goal

abbrev pub decreases-write_list : goal.decreases-write_list
decreases-write_list l = 3 * body_count l.list.now + 1

abbrev pub decreases-write_item : goal.decreases-write_item
decreases-write_item l = 3 * body_count (item_front l.item done)

abbrev pub decreases-write_loop : goal.decreases-write_loop
decreases-write_loop l = 3 * body_count l.body.now + 2

abbrev pub decreases-write_save : goal.decreases-write_save
decreases-write_save l = 3 * body_count l.body.now + 2

abbrev pub invariant-write_list-loop-item : goal.invariant-write_list-loop-item
invariant-write_list-loop-item l = record {
  can_go : (goal.iterator-write_list-loop-item).can_next l.item-iterator;
  ends : (goal.iterator-write_list-loop-item).is_finite l.item-iterator;
  writing : IsWriting l.source.tables.now l.source.first l.list l.item-iterator l.base.told l.fn.state.told l.fn.code.items
      l.code.items l.fn.rows l.rows l.state.told;
  known : IsKnown l.source.tables.now l.rows l.state;
  moves : Moves l.fn.state l.state;
}

use Rattle.std.proofs.Common.{rules, ap, arith}
use Rattle.flat_tree.specs.Counts.{body_count}
use Rattle.flat_tree.proofs.FlatLemmas.{item_bodies}
use Rattle.cycle_comp.specs.Counting.{vector_count}
use Rattle.cycle_comp.proofs.CountLemmas.{item-count}
use Rattle.cycle_comp.proofs.counting.+counting.Goals as goal

pub list_cycles-item_cycles-requires : goal.list_cycles-item_cycles-requires
list_cycles-item_cycles-requires t c =
    let was = ap body_count c.in-Some.ensures.steps in
    let bodies = item_bodies c.in-Some.item c.next.new.self in
    (omega (arith, was, bodies, c.loop-item.invariant.few, c.decreases), tt)

pub list_cycles-loop-item-preserved : goal.list_cycles-loop-item-preserved
list_cycles-loop-item-preserved t c =
    let inv = c.loop-item.invariant in
    let item = c.in-Some.item in
    let after = c.next.new.self in
    record {
      can_go = search rules;
      ends = search rules;
      few = omega (arith, inv.few, ap body_count c.in-Some.ensures.steps, item_bodies item after);
      counted =
          omega (
            arith,
            inv.counted,
            ap vector_count c.in-Some.ensures.steps,
            item-count item after,
            c.item_cycles.ensures,
            c.saturating_add.ensures,
            c.at_most-total.ensures,
          );
      small = omega (arith, c.at_most-total.ensures);
    }

pub list_cycles-returns : goal.list_cycles-returns
list_cycles-returns t c =
    let inv = c.loop-item.invariant in
    omega (arith, inv.counted, inv.small, ap vector_count c.in-None.ensures.steps.0)

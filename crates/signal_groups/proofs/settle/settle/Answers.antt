use Rattle.std.proofs.Common.{◌<◌, List, Bool, length, map, sym, ap, ◌∙◌, arith, subst, length-set}
use Rattle.std.proofs.Math.ListN.{get_or-map}
use Rattle.stil_ast.specs.Meaning.Signals.{Group}
use Rattle.signal_groups.specs.Table.{Table}
use Rattle.signal_groups.specs.Graph.{IsReady, IsStuck}
use Rattle.signal_groups.specs.Located.{group_at}
use Rattle.signal_groups.proofs.SettleLemmas.{settle_step}
use Rattle.signal_groups.proofs.settle.settle.Goals as goal

pub loop-next-preserved : goal.loop-next-preserved
loop-next-preserved c =
    let lt : c.loop-next.next < length c.args.graph.now = omega (arith, c.loop-next-test.true) in
    record {
      count = ap (λ (x : List Bool). length x) c.in_ok-settle_one.ensures.done ∙ length-set c.loop-next.done.items c.loop-next.next _
          ∙ c.loop-next.invariant.count;
      members = ap (λ (t : Table). length t.members) c.in_ok-settle_one.ensures.table
          ∙ length-set c.loop-next.table.members c.loop-next.next _ ∙ c.loop-next.invariant.members;
      within = c.next_ready-next-in-loop-next.ensures.within;
      ready = λ l. subst (λ (x : List Bool). IsReady c.args.graph.now x c.next_ready-next-in-loop-next.result)
          c.as_slice-in-loop-next.ensures.value (c.next_ready-next-in-loop-next.ensures.ready l);
      stuck = λ q. subst (λ (x : List Bool). IsStuck c.args.graph.now x) c.as_slice-in-loop-next.ensures.value
          (c.next_ready-next-in-loop-next.ensures.stuck q);
      settled = λ names named.
          settle_step names (map group_at c.args.groups.now) c.args.graph.now c.loop-next.done.items c.settle_one.new.done.items
          c.args.table.now c.loop-next.table c.settle_one.new.table c.loop-next.next (group_at c.index-groups-next.result).text
          (group_at c.index-groups-next.result) named (c.loop-next.invariant.settled names named) lt (c.loop-next.invariant.ready lt)
          c.in_ok-settle_one.ensures.table c.in_ok-settle_one.ensures.done
          (ap (λ (x : Group). x.text) (ap group_at c.index-groups-next.is
          ∙ sym (get_or-map group_at c.args.groups.now c.loop-next.next c.index-groups-next.result)));
    }

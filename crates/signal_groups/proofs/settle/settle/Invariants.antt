use Rattle.std.proofs.Common.{◌≡◌, ◌<◌, ◌≤◌, ◌-◌, length, map}
use Rattle.std.specs.Prelude.{count_by}
use Rattle.stil_ast.specs.Meaning.Signals.{Names}
use Rattle.signal_groups.specs.Graph.{IsReady, IsStuck}
use Rattle.signal_groups.specs.Located.{group_at}
use Rattle.signal_groups.specs.Settled.{IsNamed, WereSettled}
use Rattle.signal_groups.proofs.settle.settle.Given as goal

abbrev pub invariant-loop-next : goal.invariant-loop-next
invariant-loop-next l = record {
  count : length l.done.items ≡ length l.fn.graph;
  members : length l.table.members ≡ length l.fn.graph;
  within : l.next ≤ length l.fn.graph;
  ready : l.next < length l.fn.graph → IsReady l.fn.graph l.done.items l.next;
  stuck : l.next ≡ length l.fn.graph → IsStuck l.fn.graph l.done.items;
  settled : (names : Names) → IsNamed names (map group_at l.fn.groups) l.fn.graph l.fn.table
      → WereSettled names l.fn.graph l.done.items l.fn.table l.table;
}

abbrev pub decreases-loop-next : goal.decreases-loop-next
decreases-loop-next l = length l.fn.graph - count_by (λ b. b) l.done.items

use Rattle.std.proofs.Common.{◌≡◌, length, drop}
use Rattle.stil_ast.specs.Meaning.Members.{added}
use Rattle.signal_groups.specs.Marks.{AreMarked}
use Rattle.signal_groups.proofs.members.add_all.Given as goal

abbrev pub invariant-loop-signal : goal.invariant-loop-signal
invariant-loop-signal l = record {
  marked : AreMarked l.members.items l.marks.items;
  count : length l.marks.items ≡ length l.fn.marks.items;
  same : added l.members.items (drop l.signal-index l.signals) ≡ added l.fn.members.items l.signals;
}

use Rattle.std.proofs.Common.{◌≡◌, [], length, map, drop}
use Rattle.stil_ast.specs.Meaning.Members.{combined}
use Rattle.signal_groups.specs.Marks.{AreMarked}
use Rattle.signal_groups.specs.Lexed.{term_of}
use Rattle.signal_groups.specs.Lookup.{item_in}
use Rattle.signal_groups.proofs.members.combined.Given as goal

abbrev pub invariant-loop-term : goal.invariant-loop-term
invariant-loop-term l = record {
  marked : AreMarked l.members.items l.marks.items;
  count : length l.marks.items ≡ length l.fn.table.texts;
  same : combined (item_in l.fn.table) (map term_of (drop l.term-index l.terms)) l.members.items
      ≡ combined (item_in l.fn.table) (map term_of l.terms) [];
}

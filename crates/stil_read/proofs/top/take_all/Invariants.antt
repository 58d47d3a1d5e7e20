use Rattle.std.proofs.Common.{◌≡◌, map, drop}
use Rattle.answers.specs.Reading.{stepping}
use Rattle.stil_tree.specs.Trees.{entry_of}
use Rattle.stil_read.specs.Reads.{top_by, AreNames}
use Rattle.stil_read.specs.Top.{top_step}
use Rattle.stil_read.proofs.top.take_all.Given as goal

-- what stands so far, and the rest, are the whole; and names are those of the lists
abbrev pub invariant-loop-stmt : goal.invariant-loop-stmt
invariant-loop-stmt l =
    (stepping (top_step l.source.bytes.now l.source.tokens.now) (top_by l.words l.lists) (map entry_of (drop l.stmt-index l.stmts))
    ≡ stepping (top_step l.source.bytes.now l.source.tokens.now) (top_by l.fn.words l.fn.lists) (map entry_of l.stmts))
    × AreNames l.lists l.names

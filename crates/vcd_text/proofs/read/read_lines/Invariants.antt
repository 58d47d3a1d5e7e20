use Rattle.std.proofs.Common.{length}
use Rattle.vcd_text.specs.Read.{IsLineEnd, IsReadTo}
use Rattle.vcd_text.proofs.read.read_lines.Given as goal

abbrev pub invariant-loop-end : goal.invariant-loop-end
invariant-loop-end l = record {
  read : IsReadTo l.fn.bytes l.rest l.lines l.reader;
  end : IsLineEnd l.rest l.end;
}

abbrev pub decreases-loop-end : goal.decreases-loop-end
decreases-loop-end l = length l.rest

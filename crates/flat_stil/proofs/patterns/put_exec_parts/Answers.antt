use Rattle.std.proofs.Common.{append_assoc, append-nil}
use Rattle.flat_stil.proofs.patterns.put_exec_parts.Goals as goal

pub returns : goal.returns
returns c = simp (append_assoc, append-nil) (simp (append_assoc, append-nil) at c.put_line.ensures)

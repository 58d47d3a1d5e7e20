use Rattle.std.proofs.Common.{◌≡◌, drop}
use Rattle.stil_ast.specs.Meaning.Dealing.{mark_of}
use Rattle.macro_expand.proofs.assigning.mark.Given as goal

abbrev pub invariant-loop-signal : goal.invariant-loop-signal
invariant-loop-signal l = mark_of (drop l.signal-index l.scan_outs) l.taken l.args ≡ mark_of l.fn.scan_outs l.fn.taken l.fn.args

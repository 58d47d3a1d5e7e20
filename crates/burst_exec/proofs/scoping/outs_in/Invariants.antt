use Rattle.std.proofs.Common.{◌≡◌, map, take}
use Rattle.stil_ast.specs.Meaning.Resolved.{is_out}
use Rattle.burst_exec.proofs.scoping.outs_in.Given as goal

abbrev pub invariant-loop-signal : goal.invariant-loop-signal
invariant-loop-signal l = l.outs.items ≡ map is_out (take l.signal l.signals.directions)

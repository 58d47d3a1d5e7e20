use Rattle.std.proofs.Common.{◌≡◌, drop}
use Rattle.std.specs.Prelude.{max}
use Rattle.stil_ast.specs.Meaning.Shift.{passes}
use Rattle.macro_expand.proofs.arguments.Arguments.passes.Given as goal

-- the longest so far and the passes of the rest make those of all
abbrev pub invariant-loop-signal : goal.invariant-loop-signal
invariant-loop-signal l = max l.most (passes (drop l.signal-index l.signals) l.self) ≡ passes l.signals l.self

use Rattle.std.proofs.Common.{◌≡◌, drop}
use Rattle.stil_ast.specs.Meaning.Shift.{with_columns}
use Rattle.macro_expand.proofs.arguments.Arguments.lay_columns.Given as goal

-- the columns of the rest make those of all
abbrev pub invariant-loop-signal : goal.invariant-loop-signal
invariant-loop-signal l =
    with_columns l.outs l.count (drop l.signal-index l.signals) l.self ≡ with_columns l.outs l.count l.signals l.fn.self

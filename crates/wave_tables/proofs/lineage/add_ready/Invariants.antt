use Rattle.std.proofs.Common.{take}
use Rattle.wave_tables.specs.Scope.{timed}
use Rattle.wave_tables.specs.Lineage.{Adds}
use Rattle.wave_tables.proofs.lineage.add_ready.Given as goal

abbrev pub invariant-loop-number : goal.invariant-loop-number
invariant-loop-number l = Adds (timed l.scope) l.inherits (take l.number l.ready) l.fn.wholes l.wholes l.added

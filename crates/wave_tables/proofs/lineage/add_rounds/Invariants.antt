use Rattle.wave_tables.specs.Scope.{timed}
use Rattle.wave_tables.specs.Lineage.{IsLevel}
use Rattle.wave_tables.proofs.lineage.add_rounds.Given as goal

abbrev pub invariant-loop-round : goal.invariant-loop-round
invariant-loop-round l = IsLevel (timed l.scope) l._round l.wholes
